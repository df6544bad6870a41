-- A higher limit changes nothing of what `fit_coded` shows and leaves where the number is not 13, and no count of its work shrinks. Document 02, P13. Assumes nothing.
use Rattle.std.specs.Prelude.{Option, Some, None}
use mathlib.Core.Path.{◌≡◌, refl, ap, ◌∙◌}
use mathlib.Core.List.{List}
use Prim.Native.Nat.{ℕ, ◌≤◌}
use native.Mathlib.Omega.{arith}
use borrow.Author.Tests.{ne_eqb}
use Rattle.model.specs.Names.{limit_of, family_coded, link_coded, start_coded}
use Rattle.model.specs.declared.names.Family.{Family}
use Rattle.model.specs.declared.names.Link.{Link}
use Rattle.model.specs.declared.names.Start.{Start}
use Rattle.model.specs.declared.sizes.Settings.{Settings}
use Rattle.model.specs.Inputs.{Inputs}
use Rattle.job.specs.Job.{limit_from}
use Rattle.call.specs.Call.{Lent, call_of}
use Rattle.call.proofs.Higher.{limited, call_same, call_account_grows}
use Rattle.blocks.specs.Blocks.{shape_of}
use Rattle.blocks.specs.declared.Block.{Block}
use Rattle.blocks_coded.specs.Coded.{named, with_start, with_link, with_family, settings_of}
use Rattle.blocks_coded.specs.Plain.{plain_of, shown_by, fit_blocks_of}
use Rattle.blocks_coded.specs.declared.CodedSettings.{CodedSettings}
use Rattle.blocks_coded.specs.declared.PlainAnswer.{PlainAnswer}

-- the settings with the limit M
abbrev pub limited_code : ℕ → CodedSettings → CodedSettings
limited_code M c =
    record { family = c.family; link = c.link; n_agq = c.n_agq; limit = M; n = c.n; p = c.p; rows = c.rows; entries = c.entries; start = c.start }

-- no count of the work is lower: inner fits, solves, tries, points, and the four parts of the tries
pub record NoLower (before after : PlainAnswer) : Type 0 where
  pub fits : before.fits ≤ after.fits
  pub solves : before.solves ≤ after.solves
  pub tries : before.tries ≤ after.tries
  pub points : before.points ≤ after.points
  pub eta : before.eta ≤ after.eta
  pub mean : before.mean ≤ after.mean
  pub pwrss : before.pwrss ≤ after.pwrss
  pub ok : before.ok ≤ after.ok

module _ (c : CodedSettings) (M : ℕ) (few : M ≤ 1000) where
  given : limit_from M ≡ Some M
  unfolding limit_from
  given = rw (ne_eqb M 1023 (λ e. omega (arith, e, few))) refl

  -- codes are named alike, whatever the limit
  named_limited : (f : Family) (l : Link) (start : Start) → named (limited_code M c) f l start ≡ limited M (named c f l start)
  unfolding named
  named_limited f l start = rw given refl

  by_start : (f : Family) (l : Link) (x : Option Start) → with_start (limited_code M c) f l x ≡ limited M (with_start c f l x)
  unfolding with_start
  by_start f l (Some start) = named_limited f l start
  by_start f l None = named_limited _ _ _

  by_link : (f : Family) (x : Option Link) → with_link (limited_code M c) f x ≡ limited M (with_link c f x)
  unfolding with_link
  by_link f (Some l) = by_start f l (start_coded c.start)
  by_link f None = named_limited _ _ _

  by_family : (x : Option Family) → with_family (limited_code M c) x ≡ limited M (with_family c x)
  unfolding with_family
  by_family (Some f) = by_link f (link_coded c.link)
  by_family None = named_limited _ _ _

  settings_limited : settings_of (limited_code M c) ≡ limited M (settings_of c)
  unfolding settings_of
  settings_limited = by_family (family_coded c.family)

-- a limit from the call's own to 1000; one that is not given counts as 100, with the inverse link as 1000
module _ (c : CodedSettings) (bs : List Block) (I : Inputs) (L : Lent) (M : ℕ) (higher : limit_of (settings_of c).limit (settings_of c).link ≤ M) (few : M ≤ 1000) where
  pub shown_same : ((fit_blocks_of c bs I L).returned.number ≡ 13 → ⊥) → fit_blocks_of (limited_code M c) bs I L ≡ fit_blocks_of c bs I L
  unfolding fit_blocks_of shown_by plain_of
  shown_same h = ap (λ (t : Settings). shown_by (call_of t (shape_of bs) I L)) (settings_limited c M few) ∙ ap shown_by (call_same (settings_of c) (shape_of bs) I L M higher few h)

  pub shown_grows : NoLower (fit_blocks_of c bs I L).returned (fit_blocks_of (limited_code M c) bs I L).returned
  unfolding fit_blocks_of shown_by plain_of
  shown_grows =
      let g = call_account_grows (settings_of c) (shape_of bs) I L M higher few in
      rw (settings_limited c M few)
      (record { fits = g.fits; solves = g.solves; tries = g.tries; points = g.points; eta = g.eta; mean = g.mean; pwrss = g.pwrss; ok = g.ok })
