-- A code that names no family, no link or no start is refused: with 4 where every test that stands before it in the table passes, and every slice stays as it was lent. Assumes nothing.
use Rattle.family.specs.declared.carried.CarriedFamily.{CarriedFamily}
use Rattle.family.specs.declared.carried.CarriedLink.{CarriedLink}
use Rattle.model.specs.declared.names.Link.{Link}
use Rattle.std.specs.Prelude.{Option, Some, None, Result, Ok, Err}
use mathlib.Core.Path.{◌≡◌, refl, sym, ◌∙◌}
use mathlib.Core.Bool.{true, false}
use mathlib.Core.List.{List}
use mathlib.Core.Logic.{◌⊎◌, inl, inr}
use Rattle.base.specs.Sparse.{good_rows}
use Rattle.base.proofs.Doubles.{ff}
use Rattle.model.specs.Account.{no_counts}
use Rattle.model.specs.Answer.{refusal_number, blank_answer}
use Rattle.model.specs.Inputs.{Inputs}
use Rattle.model.specs.Names.{family_coded, link_coded, start_coded}
use Rattle.model.specs.Settings.{good_sizes}
use Rattle.model.specs.declared.ends.Refusal.{Refusal}
use Rattle.model.specs.declared.ends.Refusal.TheVariants.{LinkForFamily}
use Rattle.model.specs.declared.names.Family.{Family}
use Rattle.family.specs.Carried.{among, links_for, valid_for}
use Rattle.table.specs.Table.{table_of}
use Rattle.table.specs.Tests.{good_inputs, good_results, good_work, good_numbers}
use Rattle.table.proofs.Accepting.{line_4, accepted_sound}
use Rattle.call.specs.Call.{Lent, lengths_of}
use Rattle.call.proofs.Leaves.{refused_left}
use Rattle.blocks.specs.Blocks.{shape_of}
use Rattle.blocks.specs.declared.Block.{Block}
use Rattle.blocks_coded.specs.Coded.{named, unnamed, with_start, with_link, with_family, settings_of}
use Rattle.blocks_coded.specs.Plain.{plain_of, shown, shown_by, fit_blocks_of}
use Rattle.blocks_coded.specs.declared.CodedSettings.{CodedSettings}

-- the code of the family, that of the link or that of the start names nothing
abbrev pub NamesNothing : CodedSettings → Type 0
NamesNothing c = (family_coded c.family ≡ None) ⊎ ((link_coded c.link ≡ None) ⊎ (start_coded c.start ≡ None))

-- a family without a link has these settings, and a link without a family
no_link : (c : CodedSettings) (F : Option Family) → link_coded c.link ≡ None → with_family c F ≡ unnamed c
unfolding with_family with_link
no_link c (Some f) e = rw e refl
no_link c None e = refl

-- and both without a start
no_start_of : (c : CodedSettings) (f : Family) (L : Option Link) → start_coded c.start ≡ None → with_link c f L ≡ unnamed c
unfolding with_link with_start
no_start_of c f (Some l) e = rw e refl
no_start_of c f None e = refl

no_start : (c : CodedSettings) (F : Option Family) → start_coded c.start ≡ None → with_family c F ≡ unnamed c
unfolding with_family
no_start c (Some f) e = no_start_of c f (link_coded c.link) e
no_start c None e = refl

settings : (c : CodedSettings) → NamesNothing c → settings_of c ≡ unnamed c
unfolding settings_of with_family
settings c (inl e) = rw e refl
settings c (inr (inl e)) = no_link c (family_coded c.family) e
settings c (inr (inr e)) = no_start c (family_coded c.family) e

not_valid : (c : CodedSettings) → valid_for (unnamed c).link (unnamed c).family ≡ false
unfolding named valid_for links_for among
not_valid c = refl

module _ (c : CodedSettings) (bs : List Block) (I : Inputs) (L : Lent) where
  -- what a refusal shows
  abbrev Refuses : Refusal → Type 0
  Refuses r = fit_blocks_of c bs I L ≡ shown (plain_of (blank_answer (refusal_number r) no_counts)) L

  module _ (e : NamesNothing c) where
    refuses : (r : Refusal) → table_of 1 (unnamed c) (shape_of bs) I (lengths_of L) ≡ Err r → Refuses r
    unfolding fit_blocks_of shown_by
    refuses r q = rw (settings c e, refused_left (unnamed c) (shape_of bs) I L r q) refl

    by_verdict : (x : Result (CarriedFamily × CarriedLink) Refusal) → table_of 1 (unnamed c) (shape_of bs) I (lengths_of L) ≡ x → (r : Refusal) × Refuses r
    by_verdict (Err r) q = (r, refuses r q)
    by_verdict (Ok (f, l)) q = absurd (ff (sym (not_valid c) ∙ (accepted_sound 1 (unnamed c) (shape_of bs) I (lengths_of L) f l q).valid))

    -- whatever else is lent, with a number of the table
    pub unnamed_refused : (r : Refusal) × Refuses r
    unnamed_refused = by_verdict (table_of 1 (unnamed c) (shape_of bs) I (lengths_of L)) refl

    -- and with 4, where sizes, lengths, work, rows and numbers are good
    pub unnamed_four : good_sizes (settings_of c) (shape_of bs) ≡ true → good_inputs 1 (settings_of c) (shape_of bs) I ≡ true → good_results 1 (settings_of c) (lengths_of L) ≡ true
        → good_work (settings_of c) (lengths_of L) ≡ true → good_rows I.starts I.columns (settings_of c).rows (settings_of c).n ≡ true → good_numbers I ≡ true → Refuses LinkForFamily
    unnamed_four = rw (settings c e) (λ sizes lent results work rows numbers.
        refuses LinkForFamily (line_4 1 (unnamed c) (shape_of bs) I (lengths_of L) sizes refl lent results work rows numbers (not_valid c)))
