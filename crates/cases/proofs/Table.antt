-- The thirteen cases hold: each is a law of the crate whose definitions it computes. Assumes nothing.
use Rattle.quadrature.proofs.Cases.{joint_3, joint_4, joint_5, joint_8, joint_9, product_2, product_3, product_5, product_6, wish_1, wish_2}
use Rattle.lambda.proofs.Examples.{two_groups}
use Rattle.job.proofs.JobCases.{case_j_read}
use Rattle.cases.specs.Thirteen.{Thirteen}

pub thirteen : Thirteen
thirteen =
    record {
      joint_3 = joint_3;
      joint_4 = joint_4;
      joint_5 = joint_5;
      joint_8 = joint_8;
      joint_9 = joint_9;
      product_2 = product_2;
      product_3 = product_3;
      product_5 = product_5;
      product_6 = product_6;
      wish_1 = wish_1;
      wish_2 = wish_2;
      lambda_rows = two_groups;
      case_j_lem = case_j_read;
    }
