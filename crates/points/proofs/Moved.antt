-- One effect more is moved. Assumes nothing.
use mathlib.Core.Path.{◌≡◌, sym, ap, ◌∙◌}
use mathlib.Core.List.{List}
use Prim.Native.Nat.{ℕ, ◌+◌, ◌*◌, ◌<◌, ◌≤◌}
use native.Mathlib.Nat.{zero-add}
use native.Mathlib.Omega.{arith}
use lib.ListN.{length, set}
use lib.Ieee.{Float}
use Rattle.base.specs.Number.{◌⊕◌}
use Rattle.base.specs.Sum.{◌!◌}
use Rattle.base.specs.List.{fill_at}
use Rattle.base.specs.Rows.{row, Apart}
use Rattle.base.proofs.Fills.{fillat_step}
use Rattle.spread.specs.Spread.{spread_at}
use Rattle.agq_rule.specs.Term.{moved_at}
use Rattle.points.proofs.Kept.{kept_entry}

pub moved_step : (k l z u b i : ℕ) (v w Lp zp : List Float) (x : Float) → Apart u k b k → u + k ≤ length v → i < k → Lp ≡ row l (k * k) v → zp ≡ row z k v → x ≡ spread_at k Lp zp i
    → w ≡ fill_at b i (moved_at k (row l (k * k) v) (row z k v) 0 (row u k v)) v → set w (b + i) ((w ! (u + i)) ⊕ x) ≡ fill_at b (i + 1) (moved_at k (row l (k * k) v) (row z k v) 0 (row u k v)) v
unfolding moved_at
moved_step k l z u b i v w Lp zp x a h m p q e y =
    rw (e, p, q, kept_entry u k b k i i (moved_at k (row l (k * k) v) (row z k v) 0 (row u k v)) v w a h (omega arith) m y ∙ ap (λ (j : ℕ). row u k v ! j) (sym (zero-add i)))
    (fillat_step b (moved_at k (row l (k * k) v) (row z k v) 0 (row u k v)) v i w y)
