-- Short texts worked through, each with what reading answers: a diagram, or the refusal. One table, in the order of document 01's numbers.
use Rattle.std.specs.Prelude.{◌≡◌, List, [], ◌∷◌, map, ℕ, Option, Some, None, Ok, Err}
use Prim.Native.String.{String}
use Rattle.base.specs.Refusals.{refusal}
use Rattle.base.specs.Text.{bytes}
use Rattle.base.specs.declared.Reason.{Reason}
use Rattle.base.specs.declared.Reason.TheVariants.{Byte, Word, Token, Node, Name, Parameter, Solid, Weak, Count}
use Rattle.base.specs.declared.Refusal.{Refusal}
use Rattle.reading.specs.Answers.{Read, read_of}

-- The refusal, where there is one.
abbrev refusal_in : Read → Option Refusal
refusal_in (Ok d) = None
refusal_in (Err r) = Some r

abbrev done : Option Refusal
done = None

abbrev refused : Reason → ℕ → Option Refusal
refused reason place = Some (refusal reason place)

abbrev pub texts : List (String × Option Refusal)
texts =
    -- "Blanks may stand before, between and after tokens": 32 or 10, and not inside a word
    ("flow(t,1)(leaf(a)(1))", done)
    ∷ ("flow(t,1)(leaf(a)(1))  \n", done)
    ∷ (" flow ( t\n, 1 ) ( leaf ( a ) ( 1 ) ) ", done)
    ∷ ("fl ow(t,1)(leaf(a)(1))", refused Token 0)
    -- remarks, wherever blanks may stand, from # to the line's end or the text's; they hold no tokens and end words
    ∷ ("# one\nflow#(\n(t# #\n,1)(leaf(a)(1))# end", done)
    ∷ ("fl#x\now(t,1)(leaf(a)(1))", refused Token 0)
    ∷ ("#flow(t,1)(leaf(a)(1))", refused Token 22)
    ∷ ("flow(t,1)(leaf(a)(1))#abcdefghijklmnopqrstuvwxyz", done)
    ∷ ("flow(t,1)#(\n(leaf(a)(2))", refused Token 21)
    ∷ ("flow(t,1)(#\n#\nleaf(a)(0)leaf(a)(1))", refused Name 29)
    ∷ ("flow(t,1)#a\tb\n(leaf(a)(1))", refused Byte 11)
    ∷ ("flow(t,1)(leaf(a)(1))#\r\n", refused Byte 22)
    -- 3: a tab is foreign, also in a text that is off grammar
    ∷ ("flow(t,1)\t(leaf(a)(1))", refused Byte 9)
    ∷ ("flow(t,1)(leaf(a)(1))\t", refused Byte 21)
    ∷ (")-", refused Byte 1)
    -- 4: names of 24 and 25 bytes
    ∷ ("flow(abcdefghijklmnopqrstuvwx,1)(leaf(a)(1))", done)
    ∷ ("flow(abcdefghijklmnopqrstuvwxy,1)(leaf(a)(1))", refused Word 5)
    ∷ (")abcdefghijklmnopqrstuvwxy", refused Word 1)
    -- 5: the text ends early, at its length; or goes on
    ∷ ("", refused Token 0)
    ∷ ("  \n", refused Token 3)
    ∷ ("flow(t,1)(leaf(a)(1)", refused Token 20)
    ∷ ("flow(t,1)(leaf(a)(1)))", refused Token 21)
    -- a flow has a child, a group two members; "The text is one flow"
    ∷ ("flow(t,1)()", refused Token 10)
    ∷ ("flow(t,1)(xor(leaf(a))(1))", refused Token 21)
    ∷ ("leaf(a)", refused Token 0)
    -- "size is 1 to 16 without leading zero"
    ∷ ("flow(t,1)(all(p:0)(leaf(a))(0)leaf(b)(1))", refused Token 16)
    ∷ ("flow(t,1)(all(p:1)(leaf(a))(0)leaf(b)(1))", done)
    ∷ ("flow(t,1)(all(p:16)(leaf(a))(0)leaf(b)(1))", done)
    ∷ ("flow(t,1)(all(p:17)(leaf(a))(0)leaf(b)(1))", refused Token 16)
    ∷ ("flow(t,1)(all(p:01)(leaf(a))(0)leaf(b)(1))", refused Token 16)
    -- "sw and ref are 0 or 1"
    ∷ ("flow(t,2)(leaf(a)(1))", refused Token 7)
    ∷ ("flow(t,1)(leaf(a)(2))", refused Token 18)
    -- "A name starts with a letter and is no keyword; case counts."
    ∷ ("flow(flow,1)(leaf(a)(1))", refused Token 5)
    ∷ ("flow(Flow,1)(leaf(a)(1))", done)
    ∷ ("Flow(t,1)(leaf(a)(1))", refused Token 0)
    ∷ ("flow(_t,1)(leaf(a)(1))", refused Token 5)
    ∷ ("flow(t_1,1)(leaf(a)(1))", done)
    ∷ ("flow(1,1)(leaf(a)(1))", refused Token 5)
    -- 6: "Eleven nested flows and a leaf: read. Twelve: 6 at the leaf."; 5 and 6 by the earliest token, 5 first at the same one
    ∷ ("flow(a,1)(flow(b,1)(flow(c,1)(flow(d,1)(flow(e,1)(flow(f,1)(flow(g,1)(flow(h,1)(flow(i,1)(flow(j,1)(flow(k,1)(leaf(z)(1))(1))(1))(1))(1))(1))(1))(1))(1))(1))(1))", done)
    ∷ ("flow(a,1)(flow(b,1)(flow(c,1)(flow(d,1)(flow(e,1)(flow(f,1)(flow(g,1)(flow(h,1)(flow(i,1)(flow(j,1)(flow(k,1)(flow(l,1)(leaf(z)(1))(1))(1))(1))(1))(1))(1))(1))(1))(1))(1))(1))", refused Node 120)
    ∷ ("flow(a,1)(flow(b,1)(flow(c,1)(flow(d,1)(flow(e,1)(flow(f,1)(flow(g,1)(flow(h,1)(flow(i,1)(flow(j,1)(flow(k,1)(flow(l,1)(leaf", refused Node 120)
    ∷ ("flow(a,1)(flow(b,1)(flow(c,1)(flow(d,1)(flow(e,1)(flow(f,1)(flow(g,1)(flow(h,1)(flow(i,1)(flow(j,1)(flow(k,1)(flow(l,1)()", refused Token 120)
    -- 7: at the name, before the rules after it
    ∷ ("flow(t,1)(leaf(a)(0)leaf(a)(1))", refused Name 25)
    ∷ ("flow(t,1)(leaf(t)(1))", refused Name 15)
    ∷ ("flow(t,1)(leaf(T)(1))", done)
    ∷ ("flow(t,p,0)(leaf(t)(0))", refused Name 17)
    -- 8: a flow lists the pars of the replicators around it, outermost first
    ∷ ("flow(t,p,1)(leaf(a)(1))", refused Parameter 0)
    ∷ ("flow(t,1)(all(p:2)(flow(f,1)(leaf(a)(1)))(0)leaf(b)(1))", refused Parameter 19)
    ∷ ("flow(t,1)(all(p:2)(flow(f,p,1)(leaf(a)(1)))(0)leaf(b)(1))", done)
    ∷ ("flow(t,1)(all(p:2)(flow(f,p,q,1)(leaf(a)(1)))(0)leaf(b)(1))", refused Parameter 19)
    ∷ ("flow(t,1)(all(p:2)(flow(f,p,1)(all(q:2)(flow(g,p,q,1)(leaf(a)(1)))(0)leaf(b)(1)))(0)leaf(c)(1))", done)
    ∷ ("flow(t,1)(all(p:2)(flow(f,p,1)(all(q:2)(flow(g,q,p,1)(leaf(a)(1)))(0)leaf(b)(1)))(0)leaf(c)(1))", refused Parameter 40)
    ∷ ("flow(t,1)(all(p:2)(flow(f,p,1)(all(p:2)(flow(g,p,p,1)(leaf(a)(1)))(0)leaf(b)(1)))(0)leaf(c)(1))", refused Parameter 31)
    -- at most 3 replicators surround a node
    ∷ ("flow(t,1)(all(p:1)(flow(f,p,1)(all(q:1)(flow(g,p,q,1)(all(r:1)(leaf(a))(0)leaf(b)(1)))(0)leaf(c)(1)))(0)leaf(d)(1))", done)
    ∷ ("flow(t,1)(all(p:1)(flow(f,p,1)(all(q:1)(flow(g,p,q,1)(all(r:1)(flow(h,p,q,r,1)(all(s:1)(leaf(a))(0)leaf(e)(1)))(0)leaf(b)(1)))(0)leaf(c)(1)))(0)leaf(d)(1))", refused Parameter 88)
    -- 9: "A flow has exactly one solid child: a leaf, flow, xor or one."
    ∷ ("flow(t,0)(leaf(a)(0))", refused Solid 0)
    ∷ ("flow(t,1)(leaf(a)(1)leaf(b)(1))", refused Solid 0)
    ∷ ("flow(t,1)(and(leaf(a)leaf(b))(1))", refused Solid 0)
    ∷ ("flow(t,1)(or(leaf(a)leaf(b))(1))", refused Solid 0)
    ∷ ("flow(t,1)(xor(leaf(a)leaf(b))(1))", done)
    ∷ ("flow(t,1)(all(p:2)(leaf(a))(1))", refused Solid 0)
    ∷ ("flow(t,1)(some(p:2)(leaf(a))(1))", refused Solid 0)
    ∷ ("flow(t,1)(one(p:2)(leaf(a))(1))", done)
    ∷ ("flow(t,1)(loop(leaf(a))(1))", refused Solid 0)
    ∷ ("flow(t,1)(flow(f,1)(leaf(a)(1))(1))", done)
    ∷ ("flow(t,1)(flow(f,0)(leaf(a)(0))(1))", refused Solid 10)
    -- 10: sw 0
    ∷ ("flow(t,0)(leaf(a)(1))", refused Weak 0)
    ∷ ("flow(t,1)(flow(f,0)(leaf(a)(1))(1))", refused Weak 10)
    -- 11: 3 replicators of size 16 make too many copies, 2 do not
    ∷ ("flow(t,1)(all(p:16)(flow(f,p,1)(all(q:16)(flow(g,p,q,1)(all(r:16)(leaf(a))(0)leaf(b)(1)))(0)leaf(c)(1)))(0)leaf(d)(1))", refused Count 0)
    ∷ ("flow(t,1)(all(p:16)(flow(f,p,1)(all(q:16)(leaf(a))(0)leaf(b)(1)))(0)leaf(c)(1))", done)
    ∷ []

abbrev pub Worked : List (String × Option Refusal) → Type 0
Worked ts = map (λ t. refusal_in (read_of (bytes t.0))) ts ≡ map (λ t. t.1) ts
