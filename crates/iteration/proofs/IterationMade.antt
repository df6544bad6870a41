-- An iteration from its three parts, in the rule's words. Assumes nothing.
use Rattle.std.specs.Prelude.{Result, Ok, Err, ⊤}
use Prim.{tt}
use mathlib.Core.Path.{◌≡◌, refl, sym, ap, ◌∙◌}
use mathlib.Core.List.{List}
use mathlib.Core.Bool.{Bool, true, false, not}
use mathlib.Core.Logic.{inl, inr, ⊎_elim}
use Prim.Native.Nat.{ℕ, ◌+◌, ◌*◌, ◌≤◌}
use native.Mathlib.Omega.{arith}
use lib.ListN.{length}
use lib.Ieee.{Float}
use Rattle.base.specs.Rows.{row, Out, Only, OnlyTwo}
use Rattle.base.specs.Sparse.{Sparse}
use Rattle.base.proofs.Rows.{only_row, only_wide, only_trans}
use Rattle.base.proofs.TwoRows.{two_row}
use Rattle.layout.specs.Layout.{WorkRoom}
use Rattle.layout.specs.WorkRows.{mu_row, raw_row, weighted_row, working_row, rows_length}
use Rattle.layout.specs.WorkMatrices.{u_place}
use Rattle.layout.specs.WorkTerms.{w_place, z_place, terms_length}
use Rattle.layout.proofs.LaidOut.{laid_out}
use Rattle.model.specs.Items.{Item, tally}
use Rattle.model.specs.declared.counts.Account.{Account}
use Rattle.model.specs.declared.ends.End.{End}
use Rattle.model.specs.Shape.{effects_of}
use Rattle.model.specs.declared.sizes.Shape.{Shape}
use Rattle.family.specs.declared.carried.CarriedFamily.{CarriedFamily}
use Rattle.family.specs.declared.carried.CarriedLink.{CarriedLink}
use Rattle.rule.specs.Given.{Design, Given, n_of, q_of, design_of, given_of}
use Rattle.rule.specs.Working.{working_weights, working_responses}
use Rattle.rule.specs.Solve.{Solve, Solved, solved, unsolved, solve_working, solve_of}
use Rattle.rule.specs.Try.{Trial, Move, Search, found_move, no_move, tries_of, trial_of}
use Rattle.stages.specs.Held.{eta_row}
use Rattle.stages.specs.Weighed.{Weighed, Weighs}
use Rattle.tries.specs.Told.{trial_in, Brief, found, none, briefly, TriesDone}
use Rattle.tries.proofs.Counted.{none_few}
use Rattle.base.proofs.TwoRows.{two_row}
use Rattle.iteration.specs.Held.{Prepared, HeldSolved}
use Rattle.iteration.specs.Solving.{SolveTold, SolveLeft, SolvesWorking}
use Rattle.iteration.specs.Iterated.{IterationLeft}
use Rattle.iteration.specs.declared.iterates.Iteration.TheVariants as iteration

-- ---- what the answers of the parts say

-- a solve that was found
record FoundSolve (s : Solve) (D : Design) (r m t : List Float) : Type 0 where
  pub v : Solved
  pub is : s ≡ solved v
  pub held : HeldSolved D v r m t

told_found : (s : Solve) (D : Design) (r m t : List Float) → SolveTold (Ok tt) s D r m t → FoundSolve s D r m t
told_found (solved v) D r m t h = record { v = v; is = refl; held = h }
told_found (unsolved e) D r m t h = absurd h

told_unsolved : (e : End) (s : Solve) (D : Design) (r m t : List Float) → SolveTold (Err e) s D r m t → s ≡ unsolved e
told_unsolved e (solved v) D r m t h = absurd h
told_unsolved e (unsolved f) D r m t h = ap unsolved (sym h)

-- the items of a search of which its move and its account are told
record FoundItems (x : Search) (mv : Move) (a : Account) : Type 0 where
  pub items : List Item
  pub is : x ≡ found_move mv items
  pub count : tally items ≡ a

-- and of one without a move
record NoItems (x : Search) (a : Account) : Type 0 where
  pub items : List Item
  pub is : x ≡ no_move items
  pub count : tally items ≡ a

-- the move that was found, d where none was
abbrev move_or : Move → Brief → Move
move_or d (found mv a) = mv
move_or d (none a) = d

-- the account of the tries
abbrev count_in : Brief → Account
count_in (found mv a) = a
count_in (none a) = a

told_move : (x : Search) (mv : Move) (a : Account) → found mv a ≡ briefly x → FoundItems x mv a
told_move (found_move m is) mv a e = record { items = is; is = ap (λ (y : Move). found_move y is) (sym (ap (move_or mv) e)); count = sym (ap count_in e) }
told_move (no_move is) mv a e = let z : ◌≡◌ {A = ℕ} 0 1 = cc in absurd (omega arith)

told_none : (x : Search) (a : Account) → none a ≡ briefly x → NoItems x a
told_none (found_move m is) a e = let z : ◌≡◌ {A = ℕ} 0 1 = cc in absurd (omega arith)
told_none (no_move is) a e = record { items = is; is = refl; count = sym (ap count_in e) }

-- ---- rows before the raw predictor
pub eta_before : (n : ℕ) (second : Bool) → eta_row n second + n ≤ mu_row n
unfolding eta_row
eta_before n false = omega arith
eta_before n true = omega arith

module _ (G : Given) (phi : Float) (second : Bool) (r r1 r2 m m2 t t1 t2 : List Float) (lent : WorkRoom (n_of G) G.design.p (q_of G.design) r m t) where
  abbrev n : ℕ
  n = n_of G

  abbrev p : ℕ
  p = G.design.p

  abbrev q : ℕ
  q = q_of G.design

  abbrev D : Design
  D = G.design

  abbrev eta : List Float
  eta = row (eta_row n second) n r

  abbrev mu : List Float
  mu = row (mu_row n) n r

  abbrev w : List Float
  w = working_weights G phi eta mu

  abbrev z : List Float
  z = working_responses G eta mu

  module _ (wd : Weighed G phi q eta mu r r1 t t1) where
    ready : Prepared D w z r1 t1
    ready = record { weights = wd.w; responses = wd.z; target = wd.target; weighted = wd.weighted }

    rows1 : Only 0 (rows_length n) r r1
    rows1 =
        record {
          len = wd.rows_only.len;
          kept = λ j o. ⊎_elim (λ h. absurd (omega arith)) (λ h. wd.rows_only.kept j (inr (omega arith)) (inr (omega arith))) o;
        }

    terms1 : Only 0 terms_length t t1
    terms1 = only_wide (w_place q) (n + n) 0 terms_length (omega arith) (omega (arith, (laid_out lent.sizes).terms)) wd.terms_only

    -- ends 10 and 11
    pub unsolvable : (e : End) → ((w' z' : List Float) → Prepared D w' z' r1 t1 → SolveLeft D (solve_working D w' z') r1 r2 m m2 t1 t2 (Err e))
        → IterationLeft G phi eta mu (eta_row n (not second)) r r2 m m2 t t2 (iteration.Unsolvable e)
    unfolding solve_of
    unsolvable e f =
        let s : SolveLeft D (solve_working D w z) r1 r2 m m2 t1 t2 (Err e) = f w z ready in
        record {
          told = told_unsolved e (solve_working D w z) D r2 m2 t2 s.told;
          few = none_few 100;
          rows_only = only_trans rows1 (only_wide (raw_row n) (13 * n) 0 (rows_length n) (omega arith) (omega arith) s.rows_only);
          matrices_only = s.matrices_only;
          terms_only = only_trans terms1 s.terms_only;
        }

    module _ (f : (w' z' : List Float) → Prepared D w' z' r1 t1 → SolveLeft D (solve_working D w' z') r1 r2 m m2 t1 t2 (Ok tt)) where
      s : SolveLeft D (solve_working D w z) r1 r2 m m2 t1 t2 (Ok tt)
      s = f w z ready

      fs : FoundSolve (solve_working D w z) D r2 m2 t2
      fs = told_found (solve_working D w z) D r2 m2 t2 s.told

      rows2 : Only 0 (rows_length n) r r2
      rows2 = only_trans rows1 (only_wide (raw_row n) (13 * n) 0 (rows_length n) (omega arith) (omega arith) s.rows_only)

      terms2 : Only 0 terms_length t t2
      terms2 = only_trans terms1 s.terms_only

      -- the predictor is where it was
      prev_kept : row (eta_row n second) n r2 ≡ eta
      prev_kept =
          let h : eta_row n second + n ≤ mu_row n = eta_before n second in
          let l : rows_length n ≤ length r = lent.rows_long in
          only_row (eta_row n second) n (raw_row n) (13 * n) (inl (omega arith)) (omega (arith, wd.rows_only.len)) s.rows_only ∙ two_row (eta_row n second) n (weighted_row n) n (working_row n) n (inl (omega arith)) (inl (omega arith)) (omega arith) wd.rows_only

      abbrev trial : Trial
      trial = trial_in G.link n q (eta_row n second) (raw_row n) (row (u_place p q) q m2) (row (w_place q) n t2) (row (z_place n q) n t2) r2

      trial_is : trial ≡ trial_of G fs.v eta
      unfolding trial_of
      trial_is = rw (prev_kept, fs.held.u, fs.held.w, fs.held.z, fs.held.raw) refl

      solve_is : solve_of G phi eta mu ≡ solved fs.v
      unfolding solve_of
      solve_is = fs.is

      rows3 : (r3 : List Float) → OnlyTwo (eta_row n (not second)) n (mu_row n) n r2 r3 → Only 0 (rows_length n) r r3
      rows3 r3 o =
          let h : eta_row n (not second) + n ≤ mu_row n = eta_before n (not second) in
          only_trans rows2 (record { len = o.len; kept = λ j a. o.kept j (outside j (eta_row n (not second)) (omega arith) a) (outside j (mu_row n) (omega arith) a) })
        where
          outside : (j b : ℕ) → b + n ≤ rows_length n → Out 0 (rows_length n) j → Out b n j
          outside j b h a = ⊎_elim (λ x. absurd (omega arith)) (λ x. inr (omega arith)) a

      -- end 12
      pub stuck : (r3 : List Float) (made : Account) → TriesDone trial (eta_row n (not second)) (mu_row n) r2 r3 (Err made) → IterationLeft G phi eta mu (eta_row n (not second)) r r3 m m2 t t2 (iteration.Stuck made)
      stuck r3 made d =
          let x : NoItems (tries_of (trial_of G fs.v eta)) made = told_none (tries_of (trial_of G fs.v eta)) made (d.says ∙ ap (λ (y : Trial). briefly (tries_of y)) trial_is) in
          record {
            told = record { v = fs.v; items = x.items; solve = solve_is; tries = x.is; count = x.count };
            few = d.few;
            rows_only = rows3 r3 d.only;
            matrices_only = s.matrices_only;
            terms_only = terms2;
          }

      -- a move; the raw predictor is as it was
      pub moved : (r3 : List Float) (pwrss : Float) (made : Account) → TriesDone trial (eta_row n (not second)) (mu_row n) r2 r3 (Ok (pwrss, made))
          → IterationLeft G phi eta mu (eta_row n (not second)) r r3 m m2 t t2 (iteration.Moved pwrss made)
      moved r3 pwrss made d =
          let h : eta_row n (not second) + n ≤ mu_row n = eta_before n (not second) in
          let l : rows_length n ≤ length r = lent.rows_long in
          let raw : row (raw_row n) n r3 ≡ row (raw_row n) n r2 = two_row (raw_row n) n (eta_row n (not second)) n (mu_row n) n (inr (omega arith)) (inr (omega arith)) (omega (arith, rows2.len)) d.only in
          let x : FoundItems (tries_of (trial_of G fs.v eta)) (record { eta = row (eta_row n (not second)) n r3; mu = row (mu_row n) n r3; pwrss = pwrss }) made =
          told_move (tries_of (trial_of G fs.v eta)) (record { eta = row (eta_row n (not second)) n r3; mu = row (mu_row n) n r3; pwrss = pwrss }) made (d.says ∙ ap (λ (y : Trial). briefly (tries_of y)) trial_is) in
          record {
            told = record {
              v = fs.v;
              items = x.items;
              solve = solve_is;
              tries = x.is;
              count = x.count;
              held = record { w = fs.held.w; z = fs.held.z; system = fs.held.system; factor = fs.held.factor; root = fs.held.root; beta = fs.held.beta; u = fs.held.u; raw = raw ∙ fs.held.raw };
            };
            few = d.few;
            rows_only = rows3 r3 d.only;
            matrices_only = s.matrices_only;
            terms_only = terms2;
          }

-- ---- the same for the arguments of the code, of which q is the number of effects
module _ (family : CarriedFamily) (link : CarriedLink) (phi : Float) (n p q' : ℕ) (shape : Shape) (theta offset x y weights : List Float) (zt : Sparse) (second : Bool) (r r1 r2 m m2 t t1 t2 : List Float)
    (a : Result ⊤ End) (e : q' ≡ effects_of shape) (lent : WorkRoom n p q' r m t) (wd : Weighs family link phi y weights offset n q' (row (eta_row n second) n r) (row (mu_row n) n r) r r1 t t1)
    (f : SolvesWorking (design_of n p shape theta offset x zt) r1 r2 m m2 t1 t2 a) where
  abbrev G : Given
  G = given_of family link y weights (design_of n p shape theta offset x zt)

  lent' : WorkRoom n p (q_of G.design) r m t
  lent' = rw e at lent

  wd' : Weighed G phi (q_of G.design) (row (eta_row n second) n r) (row (mu_row n) n r) r r1 t t1
  wd' = rw e at (wd G.design refl refl)

  pub iterate_unsolvable : (end : End) → a ≡ Err end → IterationLeft G phi (row (eta_row n second) n r) (row (mu_row n) n r) (eta_row n (not second)) r r2 m m2 t t2 (iteration.Unsolvable end)
  iterate_unsolvable end ea = unsolvable G phi second r r1 r2 m m2 t t1 t2 lent' wd' end (λ w z. rw ea at (f w z))

  pub iterate_stuck : (r3 : List Float) (made : Account) (b : Result (Float × Account) Account) → a ≡ (Ok tt) → b ≡ Err made
      → TriesDone (trial_in link n q' (eta_row n second) (raw_row n) (row (u_place p q') q' m2) (row (w_place q') n t2) (row (z_place n q') n t2) r2) (eta_row n (not second)) (mu_row n) r2 r3 b
      → IterationLeft G phi (row (eta_row n second) n r) (row (mu_row n) n r) (eta_row n (not second)) r r3 m m2 t t2 (iteration.Stuck made)
  iterate_stuck r3 made b ea eb d = stuck G phi second r r1 r2 m m2 t t1 t2 lent' wd' (λ w z. rw ea at (f w z)) r3 made (rw (e, eb) at d)

  pub iterate_moved : (r3 : List Float) (pwrss : Float) (made : Account) (b : Result (Float × Account) Account) → a ≡ (Ok tt) → b ≡ Ok (pwrss, made)
      → TriesDone (trial_in link n q' (eta_row n second) (raw_row n) (row (u_place p q') q' m2) (row (w_place q') n t2) (row (z_place n q') n t2) r2) (eta_row n (not second)) (mu_row n) r2 r3 b
      → IterationLeft G phi (row (eta_row n second) n r) (row (mu_row n) n r) (eta_row n (not second)) r r3 m m2 t t2 (iteration.Moved pwrss made)
  iterate_moved r3 pwrss made b ea eb d = moved G phi second r r1 r2 m m2 t t1 t2 lent' wd' (λ w z. rw ea at (f w z)) r3 pwrss made (rw (e, eb) at d)
