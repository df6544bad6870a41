-- One answer, one content: each contract of this crate is an equation with its definition, but `start_eta`'s and `mode_deviances`', which are rows that were written. Assumes nothing.
use mathlib.Core.Path.{◌≡◌}
use mathlib.Core.List.{List}
use Prim.Native.Nat.{ℕ, ◌+◌, ◌≤◌}
use lib.ListN.{length}
use lib.Ieee.{Float}
use Rattle.base.specs.List.{build, fill_to, fill_at}
use Rattle.base.specs.Rows.{row, Wrote}
use Rattle.base.proofs.Unique.{one_value}
use Rattle.base.proofs.Rows.{wrote_unique}
use Rattle.model.specs.declared.names.Start.{Start}
use Rattle.family.specs.declared.carried.CarriedFamily.{CarriedFamily}
use Rattle.family.specs.declared.carried.CarriedLink.{CarriedLink}
use Rattle.family_lists.specs.Lists.{dev_resid_at}
use Rattle.rule.specs.Given.{plus_offset, less_offset}
use Rattle.rule.specs.Working.{working_weight_at, working_response_at}
use Rattle.rule.specs.Solve.{raw_at}
use Rattle.rule.specs.Run.{start_mean_at, start_eta_at}
use Rattle.rule.specs.Stop.{deviance_sum, fit_term, log_pivots}

-- `working_rows`
pub working_rows_unique : (family : CarriedFamily) (link : CarriedLink) (phi : Float) (y weights eta mu : List Float) (n wAt z_at : ℕ) (before s t : List Float)
    → s ≡ fill_at z_at n (working_response_at link y eta mu) (fill_at wAt n (working_weight_at family link weights phi eta mu) before)
    → t ≡ fill_at z_at n (working_response_at link y eta mu) (fill_at wAt n (working_weight_at family link weights phi eta mu) before) → s ≡ t
working_rows_unique family link phi y weights eta mu n wAt z_at before s t d e = one_value d e

-- `plus_offset`
pub plus_offset_unique : (offset : List Float) (i : ℕ) (v r s : Float) → r ≡ plus_offset offset i v → s ≡ plus_offset offset i v → r ≡ s
plus_offset_unique offset i v r s d e = one_value d e

-- `less_offset`
pub less_offset_unique : (offset : List Float) (i : ℕ) (v r s : Float) → r ≡ less_offset offset i v → s ≡ less_offset offset i v → r ≡ s
less_offset_unique offset i v r s d e = one_value d e

-- `raw_row`
pub raw_row_unique : (offset x : List Float) (p : ℕ) (beta : List Float) (n : ℕ) (before s t : List Float) → s ≡ fill_to n (raw_at offset x p beta before) before → t ≡ fill_to n (raw_at offset x p beta before) before → s ≡ t
raw_row_unique offset x p beta n before s t d e = one_value d e

-- `start_means`
pub start_means_unique : (start : Start) (family : CarriedFamily) (y weights : List Float) (n : ℕ) (before s t : List Float) → s ≡ fill_to n (start_mean_at start family y weights) before → t ≡ fill_to n (start_mean_at start family y weights) before → s ≡ t
start_means_unique start family y weights n before s t d e = one_value d e

-- `start_eta`
pub start_eta_unique : (link : CarriedLink) (offset : List Float) (n muAt etaAt : ℕ) (before s t : List Float) → etaAt + n ≤ length before
    → Wrote etaAt n (build (start_eta_at link offset (row muAt n before)) n) before s → Wrote etaAt n (build (start_eta_at link offset (row muAt n before)) n) before t → s ≡ t
start_eta_unique link offset n muAt etaAt before s t h d e = wrote_unique etaAt n (build (start_eta_at link offset (row muAt n before)) n) before s t h d e

-- `mode_deviances`
pub mode_deviances_unique : (family : CarriedFamily) (y weights : List Float) (n muAt devsAt : ℕ) (before s t : List Float) → devsAt + n ≤ length before
    → Wrote devsAt n (build (dev_resid_at family y (row muAt n before) weights) n) before s → Wrote devsAt n (build (dev_resid_at family y (row muAt n before) weights) n) before t → s ≡ t
mode_deviances_unique family y weights n muAt devsAt before s t h d e = wrote_unique devsAt n (build (dev_resid_at family y (row muAt n before) weights) n) before s t h d e

-- `deviance_sum`
pub deviance_sum_unique : (n : ℕ) (devs : List Float) (r s : Float) → r ≡ deviance_sum n devs → s ≡ deviance_sum n devs → r ≡ s
deviance_sum_unique n devs r s d e = one_value d e

-- `fit_term`
pub fit_term_unique : (family : CarriedFamily) (y mu weights : List Float) (dev r s : Float) → r ≡ fit_term family y mu weights dev → s ≡ fit_term family y mu weights dev → r ≡ s
fit_term_unique family y mu weights dev r s d e = one_value d e

-- `log_pivots`
pub log_pivots_unique : (q : ℕ) (factor : List Float) (r s : Float) → r ≡ log_pivots q factor → s ≡ log_pivots q factor → r ≡ s
log_pivots_unique q factor r s d e = one_value d e
