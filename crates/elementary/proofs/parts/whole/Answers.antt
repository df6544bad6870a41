-- `elementary::parts::whole` meets its contract: between the two tests the truncation is defined.
use Rattle.std.proofs.Common.{T, sym, subst}
use lib.Ieee.{of_bits, neg}
use Rattle.elementary.proofs.parts.whole.Goals as goal

pub truncating_f64_to_u64-requires : goal.truncating_f64_to_u64-requires
unfolding of_bits neg
truncating_f64_to_u64-requires c = record {
  lower_bound = subst T (sym c.if-z.true) tt;
  upper_bound = subst T (sym c.if-z-2.true) tt;
}
