-- What is reported of an answer tells the answer.
use Rattle.std.proofs.Common.{◌≡◌, refl, sym, ap, ap₂, ◌∙◌, ℕ, ◌≤◌, List, [], ◌∷◌, get_or, arith}
use Rattle.std.specs.Prelude.{Result, Ok, Err, IsErr, IsErrAnd}
use Rattle.std.proofs.lemmas.Result.{err_from_is_err_and}
use mathlib.Core.List.{head-eq_of_cons-eq}
use Rattle.base.specs.Refusals.{number, refusal}
use Rattle.base.specs.Reports.{Report, result as result_report, refusal as refusal_report, answer, written}
use Rattle.base.specs.declared.Reason.{Reason}
use Rattle.base.specs.declared.Reason.TheVariants.{Buffer, Text, Byte, Word, Token, Node, Name, Parameter, Solid, Weak, Count, Table, Record, Event, Guard, Profile}
use Rattle.base.specs.declared.Refusal.{Refusal}

-- The reasons in the order of their numbers, from 1 on.
abbrev in_order : List Reason
in_order =
    Buffer ∷ Text ∷ Byte ∷ Word ∷ Token ∷ Node ∷ Name ∷ Parameter ∷ Solid ∷ Weak ∷ Count ∷ Table ∷ Record ∷ Event ∷ Guard ∷ Profile ∷ []

-- The reason with the number n; 0 is no reason's.
record Numbered (r : Reason) : Type 0 where
  back : get_or (Buffer ∷ in_order) (number r) Buffer ≡ r
  some : 1 ≤ number r

numbered : (r : Reason) → Numbered r
numbered Buffer = record { back = refl; some = omega arith }
numbered Text = record { back = refl; some = omega arith }
numbered Byte = record { back = refl; some = omega arith }
numbered Word = record { back = refl; some = omega arith }
numbered Token = record { back = refl; some = omega arith }
numbered Node = record { back = refl; some = omega arith }
numbered Name = record { back = refl; some = omega arith }
numbered Parameter = record { back = refl; some = omega arith }
numbered Solid = record { back = refl; some = omega arith }
numbered Weak = record { back = refl; some = omega arith }
numbered Count = record { back = refl; some = omega arith }
numbered Table = record { back = refl; some = omega arith }
numbered Record = record { back = refl; some = omega arith }
numbered Event = record { back = refl; some = omega arith }
numbered Guard = record { back = refl; some = omega arith }
numbered Profile = record { back = refl; some = omega arith }

-- A number stands for one reason.
pub number_once : (a b : Reason) → number a ≡ number b → a ≡ b
number_once a b e = sym (numbered a).back ∙ ap (λ n. get_or (Buffer ∷ in_order) n Buffer) e ∙ (numbered b).back

-- A refusal is no result.
no_result : {A : Type 0} (r : Reason) (place : ℕ) (vs : List ℕ) → refusal_report (number r) place ≡ result_report vs → A
no_result r place vs e =
    let z : number r ≡ 0 = ap (λ (x : Report). x.number) e in
    absurd (omega (arith, (numbered r).some))

module _ {A : Type 0} (values : A → List ℕ) where
  pub refusal_told : (r : Result A Refusal) (reason : Reason) (place : ℕ) → answer values r ≡ refusal_report (number reason) place → r ≡ Err (refusal reason place)
  refusal_told (Ok a) reason place e = no_result reason place (values a) (sym e)
  refusal_told (Err w) reason place e =
      ap₂ (λ (c : Reason) (p : ℕ). Err (refusal c p)) (number_once w.reason reason (ap (λ (x : Report). x.number) e)) (ap (λ (x : Report). x.place) e)

  pub result_told : (r : Result A Refusal) (vs : List ℕ) → answer values r ≡ result_report vs → (a : A) × (r ≡ Ok a) × (values a ≡ vs)
  result_told (Ok a) vs e = (a, refl, ap (λ (x : Report). x.values) e)
  result_told (Err w) vs e = no_result w.reason w.place vs e

  -- Where the values tell the result.
  pub answer_told : ((a b : A) → values a ≡ values b → a ≡ b) → (r q : Result A Refusal) → answer values r ≡ answer values q → r ≡ q
  answer_told once (Ok a) q e = let (b, is, v) = result_told q (values a) (sym e) in ap Ok (once a b (sym v)) ∙ sym is
  answer_told once (Err w) q e = sym (refusal_told q w.reason w.place (sym e))

pub written_told : (r q : Result ℕ Refusal) → written r ≡ written q → r ≡ q
written_told = answer_told (λ n. n ∷ []) (λ m n e. head-eq_of_cons-eq e)

-- What `?` passes on is the refusal that it met.
pub passed : {T E : Type 0} {x : E} {r : Result T E} → IsErr r × IsErrAnd r (λ y. y ≡ x) → r ≡ Err x
passed {T} {E} {x} {r} h = let e = err_from_is_err_and {Q = λ (y : E). y ≡ x} r h.1 in e.1 ∙ ap (λ (y : E). Err y) e.2
