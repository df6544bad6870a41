-- The log term of a point with one effect a group: one place of the trial effects is set, and dd is theirs. Assumes nothing.
use mathlib.Core.Path.{◌≡◌, refl, sym, ap, ◌∙◌}
use mathlib.Core.Logic.{inl}
use mathlib.Core.List.{List}
use Prim.Native.Nat.{ℕ, ◌+◌, ◌<◌, ◌≤◌}
use native.Mathlib.Nat.{add-zero}
use native.Mathlib.Omega.{arith}
use lib.ListN.{length, set}
use lib.Ieee.{Float}
use Rattle.base.specs.Number.{◌⊕◌, ◌⊖◌, ◌⊗◌}
use Rattle.base.specs.Sum.{◌!◌}
use Rattle.base.specs.List.{fill_at}
use Rattle.base.specs.Rows.{row, Only}
use Rattle.base.specs.Sparse.{Sparse}
use Rattle.base.proofs.Fills.{fillat_in}
use Rattle.base.proofs.Rows.{row_length, row_at, only_row, only_trans, only_wide, fillat_only}
use Rattle.model.specs.declared.sizes.Shape.{Shape}
use Rattle.family.specs.declared.carried.CarriedFamily.{CarriedFamily}
use Rattle.family.specs.declared.carried.CarriedLink.{CarriedLink}
use Rattle.agq_rule.specs.Term.{delta_of, penalty_at, one_moved}
use Rattle.points.proofs.Within.{row_filled}
use Rattle.agq.specs.Gained.{GainedIn}
use Rattle.agq.specs.One.{one_effects, one_term_in, OneIn}

-- one place set is a stretch of one filled
pub one_filled : (b : ℕ) (x : Float) (w : List Float) → set w b x ≡ fill_at b 1 (λ _. x) w
unfolding fill_at
one_filled b x w = ap (λ (k : ℕ). set w k x) (sym (add-zero b))

module _ (family : CarriedFamily) (link : CarriedLink) (shape : Shape) (theta : List Float) (Z : Sparse) (y weights offset : List Float) (n q xbeta g : ℕ) (sigma node lw inv : Float) (u trial : ℕ) (r r' m m' : List Float)
    (l : g < q) (a : u + q ≤ trial) (h : trial + q + q ≤ length m) where
  abbrev hat : Float
  hat = m ! (u + g)

  abbrev t : Float
  t = hat ⊕ (sigma ⊗ node)

  abbrev m1 : List Float
  m1 = set m (trial + g) t

  abbrev T : List Float
  T = one_effects g sigma node (row u q m) (row trial q m)

  same_hat : hat ≡ row u q m ! g
  same_hat = sym (row_at u q m (omega arith) g l)

  moved : row trial q m1 ≡ T
  unfolding one_effects one_moved
  moved =
      rw (one_filled (trial + g) t m)
      (row_filled trial q g 1 (λ _. t) m (omega arith) (omega arith) ∙ rw same_hat refl)

  at_g : T ! g ≡ t
  unfolding one_effects one_moved
  at_g =
      let e : fill_at g 1 (λ _. one_moved sigma node (row u q m ! g)) (row trial q m) ! (g + 0) ≡ one_moved sigma node (row u q m ! g) = fillat_in g 1 (λ _. one_moved sigma node (row u q m ! g)) (row trial q m) (omega (arith, row_length trial q m (omega arith))) 0 (omega arith) in
      (rw (add-zero g) at e) ∙ rw (← same_hat) refl

  kept : Only trial (q + q) m m1
  kept =
      rw (one_filled (trial + g) t m)
      (only_wide (trial + g) 1 trial (q + q) (omega arith) (omega arith) (fillat_only (trial + g) 1 1 (λ _. t) m (omega arith)))

  pub one_made : (dd x : Float) → GainedIn family link shape theta Z y weights offset n q xbeta trial r r' m1 m' dd → x ≡ delta_of inv dd ((t ⊗ t) ⊖ (hat ⊗ hat))
      → OneIn family link shape theta Z y weights offset n q xbeta g sigma node lw inv u trial r r' m m' (lw ⊕ x)
  unfolding one_term_in penalty_at
  one_made dd x p e =
      record {
        term = rw (e, p.gain, moved, at_g, ← same_hat) refl;
        effects = only_row trial q (trial + q) q (inl (omega arith)) (omega (arith, kept.len)) p.b.only ∙ moved;
        b = rw (← moved) p.b.row';
        only = only_trans kept (only_wide (trial + q) q trial (q + q) (omega arith) (omega arith) p.b.only);
        in_r = p.means.only;
      }
