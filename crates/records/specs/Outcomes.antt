-- What it means that the contract of a call over records determines its outcome. Of functions whose lent values are numbers, laws' `Determined` says it.
use Rattle.std.specs.Prelude.{◌≡◌}
use seplogic.Ra.Ura.{Ura}
use base.Logic.{SProp}
use prog.Memory.{Memory}
use prog.Routine.{Routine}
use types.Logic.{Logic}
use contract.Lifetimes.{Lfts}
use contract.Monad.{Fun, fact}
use denote.Triple.Entry.{Args, Res}
use denote.Triple.Clauses.{Ended, Clauses, Lasts, AtExit, at_exit}

-- a contract, as the checker reads it from the source
abbrev pub ContractOf : Ended → Type 2
ContractOf T = (M : Type 1) (𝓤 : Ura M) (𝓛 : Logic 𝓤) → (Memory → SProp 𝓤) → (Routine → Fun 𝓤) → Clauses 𝓤 T

-- what it says of the result z and of the parameters at exit is a fact, and any two outcomes that it allows are identical
pub record Determines (T : Ended) (contract : ContractOf T) : Type 2 where
  pub Learnt : (κs : Lfts T.signature.lifetimes) → Args T.signature κs → Res T.signature κs → AtExit T κs → Type 0
  pub says : (M : Type 1) (𝓤 : Ura M) (𝓛 : Logic 𝓤) (mem : Memory → SProp 𝓤) (run : Routine → Fun 𝓤)
      (κs : Lfts T.signature.lifetimes) (a : Args T.signature κs) (g : (contract M 𝓤 𝓛 mem run κs a).ghost)
      (z : Res T.signature κs) (e : AtExit T κs) → (contract M 𝓤 𝓛 mem run κs a).ensures g z e ≡ fact 𝓤 (Learnt κs a z e)
  pub determined : (κs : Lfts T.signature.lifetimes) (a : Args T.signature κs) (z z' : Res T.signature κs) (ws ws' : Lasts T κs a)
      → Learnt κs a z (at_exit T κs a ws) → Learnt κs a z' (at_exit T κs a ws') → (z ≡ z') × (ws ≡ ws')
