-- The lines of a machine that are one for each variable, by their kind: for the contracts of the functions. That they are the lines of `formulas` is `actions.proofs.ByKind`.
use Rattle.std.specs.Prelude.{List, [], ◌++◌, ℕ, zero, suc}
use Rattle.base.specs.Text.{bytes}
use Rattle.output.specs.Decimal.{decimal}
use Rattle.formulas.specs.Lines.{Naming}
use Rattle.actions.specs.declared.Kind.{Kind}
use Rattle.actions.specs.declared.Kind.TheVariants.{Named, Typed, Set, Cleared}

abbrev pub numbered : List ℕ → ℕ → List ℕ
numbered label number = label ++ (decimal number ++ bytes " ")

abbrev pub head : Kind → ℕ → List ℕ
head Named number = []
head Typed number = numbered (bytes "@inv_") number
head Set number = numbered (bytes "@act_") number
head Cleared number = numbered (bytes "@act_") number

abbrev pub tail : Kind → List ℕ
tail Named = bytes "\n"
tail Typed = bytes " : BOOL\n"
tail Set = bytes " := TRUE\n"
tail Cleared = bytes " := FALSE\n"

abbrev pub line : Naming → Kind → ℕ → ℕ → List ℕ
line v kind number n = head kind number ++ (v n ++ tail kind)

-- Those of n variables, the first being that of event `from`, from number k on.
unfoldable pub lines : Naming → Kind → ℕ → ℕ → ℕ → List ℕ
lines v kind k from zero = []
lines v kind k from (suc n) = line v kind k from ++ lines v kind (suc k) (suc from) n

abbrev pub declarations : Naming → List ℕ → ℕ → List ℕ
declarations v name n = bytes "machine " ++ (name ++ (bytes "\nvariables\n" ++ (lines v Named 0 0 n ++ (bytes "invariants\n" ++ lines v Typed 1 0 n))))
