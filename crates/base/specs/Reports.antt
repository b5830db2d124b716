-- What an answer stands for in the words of document 01: "a result within the limits or one numbered refusal with its place". For each call a definition
-- `report` gives number, place and values of its answer, and the promises use it.
use Rattle.std.specs.Prelude.{List, [], ◌∷◌, ℕ, Result, Ok, Err}
use Rattle.base.specs.Refusals.{number}
use Rattle.base.specs.declared.Refusal.{Refusal}

-- The number is 0 for a result, 255 for a finished run, and else the refusal's. The values are the result's; a refusal has none.
pub record Report : Type 0 where
  pub number : ℕ
  pub place : ℕ
  pub values : List ℕ

abbrev pub result : List ℕ → Report
result values = record { number = 0; place = 0; values = values }

abbrev pub refusal : ℕ → ℕ → Report
refusal number place = record { number = number; place = place; values = [] }

-- An answer with the values of its result.
abbrev pub answer : {A : Type 0} → (A → List ℕ) → Result A Refusal → Report
answer values (Ok a) = result (values a)
answer values (Err r) = refusal (number r.reason) r.place

-- How many bytes were written, or the refusal.
abbrev pub Written : Type 0
Written = Result ℕ Refusal

abbrev pub written : Written → Report
written = answer (λ n. n ∷ [])
