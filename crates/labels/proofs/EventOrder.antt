-- The events of a diagram's process in their order: those of its parts, one after the other.
use mathlib.Core.Path.{◌≡◌, sym, ap, ◌∙◌}
use mathlib.Core.Logic.{⊎_elim}
use mathlib.Core.Bool.{true}
use mathlib.Core.List.{List, [], ◌++◌, append-nil, append_assoc}
use Prim.Native.Nat.{ℕ, zero, suc, ◌+◌, ◌*◌, ◌≤◌, ◌<◌}
use native.Mathlib.Nat.{zero-mul, suc-mul, mul-le-mul_right, eq-or-lt_of_le}
use native.Mathlib.Omega.{arith}
use lib.ListN.{length, length-append, get_or, get_or-append}
use lib.Seq.{get_or-append-add}
use Rattle.diagram.specs.Tree.{Children, none, next, Member, Members, end, also}
use Rattle.diagram.specs.Count.{child_events, member_events}
use Rattle.diagram.specs.Sizes.{member_sized}
use Rattle.process.specs.Process.{Event, Joint, seq, Process, join, events}
use Rattle.process.specs.Expand.{copies, children_process, child_process, member_process, members_process}
use Rattle.process.proofs.Numbered.{size_events}
use Rattle.process.proofs.Expanded.{member_laid}

-- A member has as many events as its tree.
pub member_count : (m : Member) → member_sized m ≡ true → (vs : List ℕ) (e : ℕ) → length (events (member_process m vs e)) ≡ member_events m
member_count m h vs e = omega (arith, (member_laid m h vs e).end, size_events (member_process m vs e))

-- The events of children, and of members, after those of what stands before them.
unfoldable pub children_rest : Children → List ℕ → ℕ → List Event
children_rest none vs e = []
children_rest (next c r cs) vs e = events (child_process c vs e) ++ children_rest cs vs (e + child_events c)

pub children_split : (cs : Children) (vs : List ℕ) (p : Process) (e : ℕ) → events (children_process cs vs p e) ≡ events p ++ children_rest cs vs e
unfolding children_process children_rest events
children_split none vs p e = sym (append-nil (events p))
children_split (next c r cs) vs p e =
    let q = child_process c vs e in
    children_split cs vs (join seq p q) (e + child_events c) ∙ append_assoc (events p) (events q) (children_rest cs vs (e + child_events c))

unfoldable pub members_rest : Members → List ℕ → ℕ → List Event
members_rest end vs e = []
members_rest (also m ms) vs e = events (member_process m vs e) ++ members_rest ms vs (e + member_events m)

pub members_split : (ms : Members) (j : Joint) (vs : List ℕ) (p : Process) (e : ℕ)
    → events (members_process ms j vs p e) ≡ events p ++ members_rest ms vs e
unfolding members_process members_rest events
members_split end j vs p e = sym (append-nil (events p))
members_split (also m ms) j vs p e =
    let q = member_process m vs e in
    members_split ms j vs (join j p q) (e + member_events m) ∙ append_assoc (events p) (events q) (members_rest ms vs (e + member_events m))

-- Copies that have n events each stand side by side, values rising.
module _ (j : Joint) (copy : ℕ → Process) (n : ℕ) (each : (v : ℕ) → length (events (copy v)) ≡ n) where
  pub copies_count : (last : ℕ) → length (events (copies j copy last)) ≡ suc last * n
  unfolding events
  copies_count zero = each 0 ∙ sym (rw (suc-mul 0 n, zero-mul n) (omega arith))
  copies_count (suc last) =
      length-append (events (copies j copy last)) (events (copy (suc last))) ∙ (rw (copies_count last, each (suc last)) (sym (suc-mul (suc last) n)))

  pub copies_at : (last v i : ℕ) (l : Event) → v ≤ last → i < n → get_or (events (copies j copy last)) (v * n + i) l ≡ get_or (events (copy v)) i l
  unfolding events
  copies_at zero v i l h k =
      let z : v ≡ 0 = omega arith in
      let q : v * n + i ≡ i = rw (z, zero-mul n) (omega arith) in
      rw (q, z)
  copies_at (suc last) v i l h k =
      let before = events (copies j copy last) in
      let next = events (copy (suc last)) in
      ⊎_elim
      (λ z.
      let q : v * n + i ≡ length before + i = ap (λ (x : ℕ). x * n + i) z ∙ ap (λ (x : ℕ). x + i) (sym (copies_count last)) in
      rw q (get_or-append-add before next i l ∙ ap (λ (x : ℕ). get_or (events (copy x)) i l) (sym z)))
      (λ less.
      let a : suc v * n ≤ suc last * n = mul-le-mul_right n less in
      let b = suc-mul v n in
      get_or-append before next l (v * n + i) (omega (arith, copies_count last)) ∙ copies_at last v i l (omega arith) k)
      (eq-or-lt_of_le h)
