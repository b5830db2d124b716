-- The tokens of a diagram can be written one after the other and read again: each can be written, and no two words stand side by side.
use mathlib.Core.Path.{◌≡◌, refl}
use mathlib.Core.Bool.{Bool, true, false}
use mathlib.Core.List.{List, [], ◌∷◌}
use lib.Dec.{leb}
use Rattle.diagram.specs.Tree.{Name, Flow, flow, Children, none, next, Child, plain, loop, group, replicator, Member, leaf, inner, Members, end, also}
use Rattle.base.proofs.Truth.{and_l, and_r}
use Rattle.tokens.specs.Token.{Sign, opening, closing, comma, colon, Keyword, Token, sign, key, name, named, text_tokens, sound}
use Rattle.grammar.specs.Tokens.{bit, pars_tokens, flow_tokens, children_tokens, child_tokens, member_tokens, members_tokens}
use Rattle.grammar.specs.Named.{all_named}
use Rattle.grammar.specs.Derives.{Grammatical}
use Rattle.grammar.specs.Printed.{render}
use Rattle.grammar.proofs.Fit.{FitFlow, FitChildren, FitChild, FitMember, FitMembers, grammatical_fit}
use Rattle.grammar.proofs.Lexed.{Sound, one, lexed}

-- A sign, and a bit before a sign.
signed : {words : List Name} (s : Sign) {ts : List Token} → Sound words ts → Sound words (sign s ∷ ts)
signed s h = one refl refl h

keyed : {words : List Name} (k : Keyword) {ts : List Token} → Sound words ts → Sound words (key k ∷ sign opening ∷ ts)
keyed k h = one refl refl (one refl refl h)

closed : {words : List Name} (b : Bool) {ts : List Token} → Sound words ts → Sound words (bit b ∷ sign closing ∷ ts)
closed false h = one refl refl (one refl refl h)
closed true h = one refl refl (one refl refl h)

-- The pars and sw of a flow start with a comma, so the word before them may stand there.
pars_sound : {words : List Name} (n : Name) (ps : List Name) {ts : List Token} → named words n ≡ true → all_named words ps ≡ true
    → Sound words (sign comma ∷ ts) → Sound words (name n ∷ pars_tokens ps (sign comma ∷ ts))
pars_sound n [] h k s = one h refl s
pars_sound {words} n (p ∷ ps) h k s =
    one h refl (signed comma (pars_sound p ps (and_l (named words p) (all_named words ps) k) (and_r (named words p) (all_named words ps) k) s))

mutual
  unfolding flow_tokens

  flow_sound : {words : List Name} (f : Flow) {ts : List Token} → FitFlow words f → Sound words ts → Sound words (flow_tokens f ts)
  flow_sound (flow n ps sw c r cs) h s =
      keyed Keyword.flow
      (pars_sound n ps h.0 h.1
      (signed comma (closed sw (signed opening (child_sound c h.2 (signed opening (closed r (children_sound cs h.3 (signed closing s)))))))))

  children_sound : {words : List Name} (cs : Children) {ts : List Token} → FitChildren words cs → Sound words ts → Sound words (children_tokens cs ts)
  children_sound none h s = s
  children_sound (next c r cs) h s = child_sound c h.0 (signed opening (closed r (children_sound cs h.1 s)))

  child_sound : {words : List Name} (c : Child) {ts : List Token} → FitChild words c → Sound words ts → Sound words (child_tokens c ts)
  child_sound (plain m) h s = member_sound m h s
  child_sound (loop m) h s = keyed Keyword.loop (member_sound m h (signed closing s))
  child_sound (group y a b ms) h s =
      keyed (Keyword.group y) (member_sound a h.0 (member_sound b h.1 (members_sound ms h.2 (signed closing s))))
  child_sound (replicator y par size m) h s =
      keyed (Keyword.replicator y)
      (one h.0 refl (signed colon (one (and_r (leb 1 size) (leb size 16) h.1) refl
      (signed closing (signed opening (member_sound m h.2 (signed closing s)))))))

  member_sound : {words : List Name} (m : Member) {ts : List Token} → FitMember words m → Sound words ts → Sound words (member_tokens m ts)
  member_sound (leaf n) h s = keyed Keyword.leaf (one h refl (signed closing s))
  member_sound (inner f) h s = flow_sound f h s

  members_sound : {words : List Name} (ms : Members) {ts : List Token} → FitMembers words ms → Sound words ts → Sound words (members_tokens ms ts)
  members_sound end h s = s
  members_sound (also m ms) h s = member_sound m h.0 (members_sound ms h.1 s)

pub diagram_sound : (words : List Name) (d : Flow) → Grammatical words d → Sound words (flow_tokens d [])
diagram_sound words d g = flow_sound d ((grammatical_fit words d).0 g) Sound.none

-- Every diagram of the grammar is that of a text: its tokens, written one after the other, have these very tokens.
pub rendered : (words : List Name) → sound words ≡ true → (d : Flow) → Grammatical words d
    → text_tokens words (render words (flow_tokens d [])) ≡ flow_tokens d []
rendered words fine d g = lexed words fine (flow_tokens d []) (diagram_sound words d g)
