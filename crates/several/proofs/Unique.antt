-- One answer, and one content of what is read afterwards: the log terms, and the effects at a point. The rest of a point's places is written again at the next. Assumes nothing.
use mathlib.Core.Path.{◌≡◌}
use mathlib.Core.List.{List}
use Prim.Native.Nat.{ℕ}
use lib.Ieee.{Float}
use Rattle.base.specs.Rows.{row}
use Rattle.base.proofs.Unique.{one_value}
use Rattle.several.specs.Several.{TrialIn, PointIn, TermsIn}

-- `trial_gain`
pub trial_unique : (gain : List Float → Float) (e : List Float) (n q xbeta trial : ℕ) (r r1 r2 m m1 m2 : List Float) (x y : Float)
    → TrialIn gain e n q xbeta trial r r1 m m1 x → TrialIn gain e n q xbeta trial r r2 m m2 y → (x ≡ y) × (row trial q m1 ≡ row trial q m2)
trial_unique gain e n q xbeta trial r r1 r2 m m1 m2 x y p o = (one_value p.gained o.gained, one_value p.effects o.effects)

-- `group_point`, `joint_point`
pub point_unique : (term : Float) (e : List Float) (n q xbeta trial : ℕ) (r r1 r2 m m1 m2 : List Float) (x y : Float)
    → PointIn term e n q xbeta trial r r1 m m1 x → PointIn term e n q xbeta trial r r2 m m2 y → (x ≡ y) × (row trial q m1 ≡ row trial q m2)
point_unique term e n q xbeta trial r r1 r2 m m1 m2 x y p o = (one_value p.told o.told, one_value p.effects o.effects)

-- `group_terms`, `joint_terms`
pub terms_unique : (f : ℕ → Float) (n q xbeta trial count : ℕ) (r r1 r2 m m1 m2 t t1 t2 : List Float)
    → TermsIn f n q xbeta trial count r r1 m m1 t t1 → TermsIn f n q xbeta trial count r r2 m m2 t t2 → t1 ≡ t2
terms_unique f n q xbeta trial count r r1 r2 m m1 m2 t t1 t2 p o = one_value p.terms o.terms
