-- The thirteen cases, one a line. Document 01, "Cases to prove (one table) and to run". Assumes nothing.
use Rattle.std.specs.Prelude.{◌≡◌, Some, Ok, Err, List, [], ◌∷◌, ◌++◌, ℕ, Float}
use Rattle.base.specs.Number.{bits, zero_f}
use Rattle.base.specs.List.{matrix}
use Rattle.model.specs.declared.names.Family.TheVariants.{Poisson}
use Rattle.model.specs.declared.names.Link.TheVariants.{Log}
use Rattle.model.specs.declared.names.Start.TheVariants.{Usual}
use Rattle.model.specs.declared.sizes.Shape.{Shape}
use Rattle.quadrature.specs.declared.orders.Order.TheVariants.{Three, Five, Seven, Nine, Eleven}
use Rattle.quadrature.specs.declared.orders.Decline.TheVariants.{Wish, Effects, Cap}
use Rattle.quadrature.specs.Orders.{wished, product_order, joint_order}
use Rattle.lambda.specs.Column.{lambda_full}
use Rattle.job.specs.Job.{Job, sound, read_of}

-- one block of m groups with k effects
abbrev pub one_block : ℕ → ℕ → Shape
one_block m k = record { count = 1; m = m ∷ 0 ∷ 0 ∷ 0 ∷ 0 ∷ 0 ∷ 0 ∷ 0 ∷ []; k = k ∷ 0 ∷ 0 ∷ 0 ∷ 0 ∷ 0 ∷ 0 ∷ 0 ∷ [] }

-- a double whose first two bytes are told, the others being 0
abbrev pub double : ℕ → ℕ → List ℕ
double a b = a ∷ b ∷ 0 ∷ 0 ∷ 0 ∷ 0 ∷ 0 ∷ 0 ∷ []

-- case J: 15 81 00 08 44 00 02 20, doubles 1, 2, 1, 00 08 00 00, double 1
abbrev pub bytes_j : List ℕ
bytes_j =
    0x15 ∷ 0x81 ∷ 0x00 ∷ 0x08 ∷ 0x44 ∷ 0x00 ∷ 0x02 ∷ 0x20 ∷ double 0x3f 0xf0 ++ double 0x40 0x00 ++ double 0x3f 0xf0
    ++ (0x00 ∷ 0x08 ∷ 0x00 ∷ 0x00 ∷ double 0x3f 0xf0)

-- what it says: Poisson, log link, L = 0; one response, one column, one group with one effect; theta 1, y 2, X 1, Z' 1
abbrev pub call_j : Job
call_j =
    record {
      settings = record { family = Poisson; link = Log; n_agq = 1; limit = Some 0; n = 1; p = 1; rows = 1; entries = 1; start = Usual };
      shape = one_block 1 1;
      theta = bits 0x3ff0_0000_0000_0000 ∷ [];
      y = bits 0x4000_0000_0000_0000 ∷ [];
      weights = [];
      offset = [];
      x = bits 0x3ff0_0000_0000_0000 ∷ [];
      z = record { starts = 0 ∷ 1 ∷ []; columns = 0 ∷ []; values = bits 0x3ff0_0000_0000_0000 ∷ [] };
    }

-- joint and product orders at wish 11, the two wishes, Λ of two groups with two effects, and case J read
pub record Thirteen : Type 0 where
  pub joint_3 : joint_order 11 3 ≡ Ok Eleven
  pub joint_4 : joint_order 11 4 ≡ Ok Nine
  pub joint_5 : joint_order 11 5 ≡ Ok Five
  pub joint_8 : joint_order 11 8 ≡ Ok Three
  pub joint_9 : joint_order 11 9 ≡ Err Effects
  pub product_2 : product_order 11 2 ≡ Ok Eleven
  pub product_3 : product_order 11 3 ≡ Ok Seven
  pub product_5 : product_order 11 5 ≡ Ok Three
  pub product_6 : product_order 11 6 ≡ Err Cap
  pub wish_1 : wished 1 ≡ Err Wish
  pub wish_2 : wished 2 ≡ Ok Three
  pub lambda_rows : (a b c : Float) → matrix 4 4 (lambda_full (one_block 2 2) (a ∷ b ∷ c ∷ []))
      ≡ a ∷ zero_f ∷ zero_f ∷ zero_f
      ∷ b ∷ c ∷ zero_f ∷ zero_f
      ∷ zero_f ∷ zero_f ∷ a ∷ zero_f
      ∷ zero_f ∷ zero_f ∷ b ∷ c ∷ []
  pub case_j_lem : read_of bytes_j ≡ sound call_j
