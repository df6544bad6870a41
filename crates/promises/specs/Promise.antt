-- A contract that asks nothing and ensures one fact. Assumes nothing.
use seplogic.Ra.Ura.{Ura}
use base.Logic.{emp}
use contract.Lifetimes.{Lfts}
use contract.Monad.{fact}
use denote.Triple.Clauses.{Ended, Clauses, AtExit}
use denote.Triple.Entry.{Args, Res}

-- a fact of the arguments, of what is returned, and of the arguments after the call
abbrev pub Fact : Ended → Type 1
Fact T = (κs : Lfts T.signature.lifetimes) → Args T.signature κs → Res T.signature κs → AtExit T κs → Type 0

-- the contract without a `requires` that ensures it
abbrev pub promise : {M : Type 1} (𝓤 : Ura M) (T : Ended) → Fact T → Clauses 𝓤 T
promise 𝓤 T E κs a = record { ghost = Unit {0}; requires = λ _. emp 𝓤; ensures = λ _ r e. fact 𝓤 (E κs a r e) }
