-- The lists of a fitted call that were written one behind another are found again by their lengths; so what is printed of them is what is printed of the call. Assumes nothing.
use mathlib.Core.Path.{◌≡◌, refl, sym, ap, ◌∙◌}
use mathlib.Core.Bool.{Bool, true, false}
use mathlib.Core.List.{List, ◌++◌, append_assoc}
use Prim.Native.Nat.{ℕ, ◌+◌, ◌*◌, ◌-◌, ◌≤◌}
use native.Mathlib.Omega.{arith}
use borrow.Author.Tests.{eqb-true}
use lib.Dec.{eqb}
use lib.Ieee.{Float}
use lib.ListN.{length, take, drop, replicate, length-replicate}
use lib.Seq.{take_at, drop_at, drop-drop}
use Rattle.base.specs.Number.{zero_f}
use Rattle.base.specs.Rows.{row}
use Rattle.base.proofs.Rows.{part_row, row_length}
use Rattle.model.specs.declared.ends.Answer.{Answer}
use Rattle.model.specs.declared.sizes.Shape.{Shape}
use Rattle.model.specs.declared.sizes.Settings.{Settings}
use Rattle.job.specs.Lists.{laid}
use Rattle.lines.specs.Lines.{Written}
use Rattle.results.specs.Nine.{Results, nine}
use Rattle.model.specs.Inputs.{Inputs}
use Rattle.call.specs.Call.{Left, call_of}
use Rattle.report.specs.Report.{answer_text, Few}
use Rattle.jobfit.specs.Done.{numbers_of, results_length, zeros, lent_for, Done, done, results_by, done_of, done_for}
use Rattle.jobfit.specs.Room.{SizesFew}
use Rattle.jobfit.proofs.Lent.{cells_few, beta_lent}
use Rattle.jobfit.proofs.Lengths.{ResultsFit, results_fit}
use Rattle.output.specs.Output.{slices_with, left_text, response, left_response}
use Rattle.respond.specs.Flat.{lists_of}

-- ---- the parts that are lent are these lists, and they are few
module _ (n p q : ℕ) (xs : List Float) where
  abbrev lent_lists : Results
  lent_lists =
      let se = 2 + p in
      let z = se + p in
      let u = z + p in
      let b = u + q in
      let mu = b + q in
      let eta = mu + n in
      let residual = eta + n in
      let v = residual + n in
      nine (take (se - 2) (drop 2 xs)) (take (z - se) (drop se xs)) (take (u - z) (drop z xs)) (take (b - u) (drop u xs)) (take (mu - b) (drop b xs)) (take (eta - mu) (drop mu xs))
      (take (residual - eta) (drop eta xs))
      (take (v - residual) (drop residual xs))
      (take (v + p * p - v) (drop v xs))

  lists_are : lent_lists ≡ lists_of n p q xs
  unfolding lists_of
  lists_are =
      rw (
        part_row 2 p xs,
        part_row (2 + p) p xs,
        part_row (2 + p + p) p xs,
        part_row (2 + p + p + p) q xs,
        part_row (2 + p + p + p + q) q xs,
        part_row (2 + p + p + p + q + q) n xs,
        part_row (2 + p + p + p + q + q + n) n xs,
        part_row (2 + p + p + p + q + q + n + n) n xs,
        part_row (2 + p + p + p + q + q + n + n + n) (p * p) xs,
      )
      refl

  row_few : (at k most : ℕ) → at + k ≤ length xs → k ≤ most → length (row at k xs) ≤ most
  row_few at k most h l = rw (row_length at k xs h) l

  pub lists_few : n ≤ 512 → p ≤ 16 → q ≤ 32 → results_length n p q ≤ length xs → Few lent_lists
  unfolding lists_of
  lists_few ln lp lq h =
      rw lists_are
      (record {
        beta = row_few 2 p 16 (omega arith) lp;
        se = row_few (2 + p) p 16 (omega arith) lp;
        z = row_few (2 + p + p) p 16 (omega arith) lp;
        u = row_few (2 + p + p + p) q 32 (omega arith) lq;
        b = row_few (2 + p + p + p + q) q 32 (omega arith) lq;
        mu = row_few (2 + p + p + p + q + q) n 512 (omega arith) ln;
        eta = row_few (2 + p + p + p + q + q + n) n 512 (omega arith) ln;
        residual = row_few (2 + p + p + p + q + q + n + n) n 512 (omega arith) ln;
        v = row_few (2 + p + p + p + q + q + n + n + n) (p * p) 256 (omega arith) (cells_few p lp);
      })

pub flat_written : (n p q : ℕ) (xs : List Float) (a : Answer) (b w : List ℕ) (r : ℕ) → Written (answer_text a (lent_lists n p q xs)) b r w → Written (answer_text a (lists_of n p q xs)) b r w
flat_written n p q xs a b w r h = rw (← (lists_are n p q xs)) h

-- ---- one list is cut off, and the next begins
cut : (k n : ℕ) (xs l r : List Float) → drop k xs ≡ l ++ r → length l ≡ n → (row k n xs ≡ l) × (drop (k + n) xs ≡ r)
unfolding row
cut k n xs l r e h = (rw e (take_at l r n h), sym (drop-drop n k xs) ∙ rw e (drop_at l r n h))

flat : (x₁ x₂ x₃ x₄ x₅ x₆ x₇ x₈ x₉ r : List Float)
    → ((x₁ ++ (x₂ ++ x₃)) ++ ((x₄ ++ x₅) ++ ((x₆ ++ (x₇ ++ x₈)) ++ x₉))) ++ r ≡ x₁ ++ (x₂ ++ (x₃ ++ (x₄ ++ (x₅ ++ (x₆ ++ (x₇ ++ (x₈ ++ (x₉ ++ r))))))))
flat x₁ x₂ x₃ x₄ x₅ x₆ x₇ x₈ x₉ r = simp append_assoc refl

module _ (n p q : ℕ) (a : Answer) (R : Results) (b : List Float) (fits : ResultsFit n p q R) where
  abbrev written : List Float
  written = laid (numbers_of a R) b

  begun : drop 2 written ≡ R.beta ++ (R.se ++ (R.z ++ (R.u ++ (R.b ++ (R.mu ++ (R.eta ++ (R.residual ++ (R.v ++ drop (length (numbers_of a R)) b))))))))
  unfolding laid numbers_of
  begun = flat R.beta R.se R.z R.u R.b R.mu R.eta R.residual R.v (drop (length (numbers_of a R)) b)

  pub lists_found : lists_of n p q written ≡ R
  unfolding lists_of
  lists_found =
      let r₉ : List Float = drop (length (numbers_of a R)) b in
      let r₈ : List Float = R.v ++ r₉ in
      let r₇ : List Float = R.residual ++ r₈ in
      let r₆ : List Float = R.eta ++ r₇ in
      let r₅ : List Float = R.mu ++ r₆ in
      let r₄ : List Float = R.b ++ r₅ in
      let r₃ : List Float = R.u ++ r₄ in
      let r₂ : List Float = R.z ++ r₃ in
      let r₁ : List Float = R.se ++ r₂ in
      let c₁ = cut 2 p written R.beta r₁ begun fits.beta in
      let c₂ = cut (2 + p) p written R.se r₂ c₁.1 fits.se in
      let c₃ = cut (2 + p + p) p written R.z r₃ c₂.1 fits.z in
      let c₄ = cut (2 + p + p + p) q written R.u r₄ c₃.1 fits.u in
      let c₅ = cut (2 + p + p + p + q) q written R.b r₅ c₄.1 fits.b in
      let c₆ = cut (2 + p + p + p + q + q) n written R.mu r₆ c₅.1 fits.mu in
      let c₇ = cut (2 + p + p + p + q + q + n) n written R.eta r₇ c₆.1 fits.eta in
      let c₈ = cut (2 + p + p + p + q + q + n + n) n written R.residual r₈ c₇.1 fits.residual in
      let c₉ = cut (2 + p + p + p + q + q + n + n + n) (p * p) written R.v r₉ c₈.1 fits.v in
      rw (c₁.0, c₂.0, c₃.0, c₄.0, c₅.0, c₆.0, c₇.0, c₈.0, c₉.0) refl

-- ---- with room for all results beta is lent whole
most_results : (t : Settings) → SizesFew t → results_length t.n t.p t.rows ≤ 1906
most_results t f = omega (arith, f.n, f.p, f.q, cells_few t.p f.p)

pub results_room : (t : Settings) (room : ℕ) → SizesFew t → room ≡ length (replicate 1906 zero_f) → results_length t.n t.p t.rows ≤ room
results_room t room f e = rw (e, length-replicate 1906 zero_f) (most_results t f)

lent_whole : (t : Settings) (terms : List Float) → SizesFew t → lent_for t (replicate 8192 zero_f) (replicate 5696 zero_f) terms (replicate 1906 zero_f) ≡ slices_with terms t
unfolding lent_for zeros
lent_whole t terms f = let e = beta_lent t (length (replicate 1906 zero_f)) (results_length t.n t.p t.rows) refl (results_room t (length (replicate 1906 zero_f)) f refl) in rw (← e) refl

-- ---- what is printed of a call whose results stand in one buffer
unfitted_text : (a : Answer) (R S : Results) → eqb a.number 0 ≡ false → answer_text a R ≡ answer_text a S
unfolding answer_text
unfitted_text a R S e = rw e refl

module _ (t : Settings) (l : Left) (before after : List Float) (fits : l.answer.number ≡ 0 → ResultsFit t.n t.p t.rows l.lent.results) where
  pub left_text_lem : after ≡ results_by l before → answer_text l.answer (lists_of t.n t.p t.rows after) ≡ left_text l
  unfolding results_by
  left_text_lem e = by (eqb l.answer.number 0) refl
    where
      by : (x : Bool) → eqb l.answer.number 0 ≡ x → answer_text l.answer (lists_of t.n t.p t.rows after) ≡ left_text l
      by true q = rw (e, q, lists_found t.n t.p t.rows l.answer l.lent.results before (fits (eqb-true _ _ q))) refl
      by false q = unfitted_text l.answer _ _ q

-- what is told of a call that was done over arrays of zeros and lent terms
pub read_response : (t : Settings) (s : Shape) (I : Inputs) (lent rows matrices terms results : List Float) (a : Answer) (out w : List ℕ) (r : ℕ) → SizesFew t
    → done a rows matrices terms results ≡ done_for t s I (replicate 8192 zero_f) (replicate 5696 zero_f) lent (replicate 1906 zero_f)
    → Written (answer_text a (lists_of t.n t.p t.rows results)) out r w
    → response r terms w ≡ left_response (call_of t s I (slices_with lent t)) out
unfolding done_for done_of
read_response t s I lent rows matrices terms results a out w r few d h =
    let l = call_of t s I (lent_for t (replicate 8192 zero_f) (replicate 5696 zero_f) lent (replicate 1906 zero_f)) in
    let answer : a ≡ l.answer = ap (λ (x : Done). x.answer) d in
    let left : terms ≡ l.lent.terms = ap (λ (x : Done). x.terms) d in
    let text : answer_text l.answer (lists_of t.n t.p t.rows results) ≡ left_text l = left_text_lem t l (replicate 1906 zero_f) results (λ z. results_fit t s I _ z) (ap (λ (x : Done). x.results) d) in
    let line : answer_text a (lists_of t.n t.p t.rows results) ≡ left_text l = rw answer text in
    rw (← (lent_whole t lent few), h.0, h.1, line, left) refl
