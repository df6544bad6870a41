-- Good sizes as facts, for every function that runs after the test of sizes. Assumes nothing.
use Rattle.std.specs.Prelude.{Option, Some, None}
use mathlib.Core.Path.{◌≡◌, refl}
use mathlib.Core.Bool.{true, false}
use Prim.Native.Nat.{ℕ, ◌≤◌}
use native.Mathlib.Omega.{arith}
use lib.Dec.{leb, eqb}
use borrow.Author.Tests.{leb-true, le-leb, eqb-true, eq-eqb}
use Rattle.model.specs.Names.{is_inverse, limit_of}
use Rattle.model.specs.Shape.{within, effects_of, good_shape, InRange}
use Rattle.model.specs.Settings.{good_limit, good_sizes, Sized}
use Rattle.model.specs.declared.names.Link.{Link}
use Rattle.model.specs.declared.sizes.Shape.{Shape}
use Rattle.model.specs.declared.sizes.Settings.{Settings}
use Rattle.model.proofs.Tests.{both, false_unless, from_within, to_within, picked_few}
use Rattle.model.proofs.Shapes.{in_range_lem}

pub sized : (t : Settings) (s : Shape) → good_sizes t s ≡ true → Sized t s
unfolding good_sizes
sized t s e =
    let l : (_ ≡ true) × (good_limit t.limit ≡ true) = both e in
    let m : (_ ≡ true) × (leb t.entries 8192 ≡ true) = both l.0 in
    let r : (_ ≡ true) × (eqb (effects_of s) t.rows ≡ true) = both m.0 in
    let g : (_ ≡ true) × (good_shape s ≡ true) = both r.0 in
    let w : (within 1 512 t.n ≡ true) × (within 1 16 t.p ≡ true) = both g.0 in
    let n : (1 ≤ t.n) × (t.n ≤ 512) = from_within w.0 in
    let p : (1 ≤ t.p) × (t.p ≤ 16) = from_within w.1 in
    let q : effects_of s ≡ t.rows = eqb-true _ _ r.1 in
    let i : InRange s = in_range_lem s g.1 in
    record {
      sizes = record { n_some = n.0; n_few = n.1; p_some = p.0; p_few = p.1; q_some = omega arith; q_few = omega arith };
      shape = g.1;
      effects = q;
      entries_few = leb-true _ _ m.1;
      limit = l.1;
    }

-- sizes out of range are not good
pub not_sized : (t : Settings) (s : Shape) → (Sized t s → ⊥) → false ≡ good_sizes t s
not_sized t s h = false_unless (λ e. h (sized t s e))

-- where all else is in range, the limit decides
pub sized_when : (t : Settings) (s : Shape) → (1 ≤ t.n) × (t.n ≤ 512) → (1 ≤ t.p) × (t.p ≤ 16) → good_shape s ≡ true → effects_of s ≡ t.rows → t.entries ≤ 8192 → good_limit t.limit ≡ good_sizes t s
unfolding good_sizes
sized_when t s n p g e m =
    let a : within 1 512 t.n ≡ true = to_within n.0 n.1 in
    let b : within 1 16 t.p ≡ true = to_within p.0 p.1 in
    rw (a, b, g, eq-eqb (effects_of s) t.rows e, le-leb t.entries 8192 m) refl

-- an inner fit takes at most 1000 iterations
pub limit_few : (l : Option ℕ) (k : Link) → good_limit l ≡ true → limit_of l k ≤ 1000
unfolding good_limit limit_of
limit_few (Some l) k e = leb-true l 1000 e
limit_few None k e = picked_few (is_inverse k) (omega arith) (omega arith)
