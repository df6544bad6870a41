-- What one iteration answers and leaves. Document 01, "The inner fit": the solve of an iteration, and its tries; document 02, P9. Assumes nothing.
use Rattle.std.specs.Prelude.{◌≡◌, List, ℕ, ◌*◌, ◌≤◌, length, Float}
use Rattle.base.specs.Rows.{row, Only}
use Rattle.layout.specs.Layout.{WorkRoom}
use Rattle.layout.specs.WorkRows.{mu_row, rows_length}
use Rattle.layout.specs.WorkMatrices.{matrices_length}
use Rattle.layout.specs.WorkTerms.{terms_length}
use Rattle.model.specs.Account.{no_counts, AtMost}
use Rattle.model.specs.Items.{Item, tally}
use Rattle.model.specs.declared.counts.Account.{Account}
use Rattle.model.specs.declared.sizes.Shape.{Shape}
use Rattle.rule.specs.Given.{Given, n_of, q_of}
use Rattle.rule.specs.Solve.{Solved, solved, unsolved, solve_of}
use Rattle.rule.specs.Try.{found_move, no_move, tries_of, trial_of}
use Rattle.rule.specs.declared.given.Design.{Design as LentDesign}
use Rattle.rule.specs.declared.given.Given.{Given as LentGiven}
use Rattle.solve.specs.Ready.{Ready, ReadyIn}
use Rattle.tries.specs.Told.{tries_to}
use Rattle.working.specs.Optional.{Optional}
use Rattle.iteration.specs.Held.{HeldSolved}
use Rattle.iteration.specs.declared.iterates.Iteration.{Iteration}
use Rattle.iteration.specs.declared.iterates.Iteration.TheVariants.{Unsolvable, Stuck, Moved}

-- ---- what is given

-- the lists are as long as the sizes say, Z' is in order, and the work slices have room
pub record Asked (n p q : ℕ) (shape : Shape) (theta : List Float) (starts columns : List ℕ) (values offset x y r m t : List Float) : Type 0 where
  pub ready : Ready shape theta starts columns values q n
  pub lent : WorkRoom n p q r m t
  pub offset_fits : Optional n offset
  pub x_long : n * p ≤ length x
  pub y_long : n ≤ length y

-- the same of what is given as it is lent
abbrev pub AskedFor : LentGiven → (r m t : List Float) → Type 0
AskedFor g r m t =
    Asked g.design.n g.design.p g.design.q g.design.shape g.design.theta.now g.design.zt.starts.now g.design.zt.columns.now g.design.zt.values.now
    g.design.offset.now g.design.x.now g.y.now r m t

-- the sizes and the order of a design as it is lent
abbrev pub ReadyFor : LentDesign → Type 0
ReadyFor d = ReadyIn d.shape d.theta.now d.zt d.q d.n

-- ---- what an iteration answers

-- the solve v of the predictor eta with the means mu, and tries, none of them accepted, of which a is the account
pub record StuckAfter (G : Given) (phi : Float) (eta mu : List Float) (a : Account) : Type 0 where
  pub v : Solved
  pub items : List Item
  pub solve : solve_of G phi eta mu ≡ solved v
  pub tries : tries_of (trial_of G v eta) ≡ no_move items
  pub count : tally items ≡ a

-- the solve v, which the work slices hold, and tries, the last accepted, of which a is the account: its predictor in the row at next, its means in theirs
pub record MovedAfter (G : Given) (phi : Float) (eta mu : List Float) (next : ℕ) (rows matrices terms : List Float) (pwrss : Float) (a : Account) : Type 0 where
  pub v : Solved
  pub items : List Item
  pub solve : solve_of G phi eta mu ≡ solved v
  pub tries : tries_of (trial_of G v eta) ≡ found_move (record { eta = row next (n_of G) rows; mu = row (mu_row (n_of G)) (n_of G) rows; pwrss = pwrss }) items
  pub count : tally items ≡ a
  pub held : HeldSolved G.design v rows matrices terms

-- each answer in the rule's words
abbrev pub IterationTold : Iteration → Given → Float → (eta mu : List Float) → ℕ → (rows matrices terms : List Float) → Type 0
IterationTold (Unsolvable e) G phi eta mu next r m t = solve_of G phi eta mu ≡ unsolved e
IterationTold (Stuck a) G phi eta mu next r m t = StuckAfter G phi eta mu a
IterationTold (Moved pwrss a) G phi eta mu next r m t = MovedAfter G phi eta mu next r m t pwrss a

-- what its tries count
abbrev pub tries_made : Iteration → Account
tries_made (Unsolvable e) = no_counts
tries_made (Stuck a) = a
tries_made (Moved pwrss a) = a

-- the most that they can count: 100 tries, with the inverse link
abbrev pub iteration_cap : Account
iteration_cap = tries_to 100

-- an iteration tells what the rule's would, and changes nothing behind the named lengths
pub record IterationLeft (G : Given) (phi : Float) (eta mu : List Float) (next : ℕ) (r r' m m' t t' : List Float) (a : Iteration) : Type 0 where
  pub told : IterationTold a G phi eta mu next r' m' t'
  pub few : AtMost iteration_cap (tries_made a)
  pub rows_only : Only 0 (rows_length (n_of G)) r r'
  pub matrices_only : Only 0 (matrices_length G.design.p (q_of G.design)) m m'
  pub terms_only : Only 0 terms_length t t'
