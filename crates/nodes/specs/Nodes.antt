-- The nodes of a diagram in the order of the text, as the walks over them read them.
use Rattle.std.specs.Prelude.{Bool, true, false, List, ℕ, zero, suc, Option, Some, None, get_or}
use Rattle.diagram.specs.declared.Kind.{Kind}
use Rattle.diagram.specs.declared.Kind.TheVariants.{Flow, Leaf, And, Or, Xor, All, Some as SomeKind, One, Loop}
use Rattle.diagram.specs.declared.Node.{Node}
use Rattle.diagram.specs.Stored.{blank_node}
use Rattle.postfix.specs.declared.Code.TheVariants.{Seq, And as AndCode, Or as OrCode, Xor as XorCode}
use Rattle.nodes.specs.declared.Form.{Form}
use Rattle.nodes.specs.declared.Form.TheVariants.{Leaf as LeafForm, Loop as LoopForm, Joined}

-- Which of the kinds it is, in their order.
abbrev pub kind_index : Kind → ℕ
kind_index Flow = 0
kind_index Leaf = 1
kind_index And = 2
kind_index Or = 3
kind_index Xor = 4
kind_index (All size) = 5
kind_index (SomeKind size) = 6
kind_index (One size) = 7
kind_index Loop = 8

-- How many copies a replicator of this size has; none of its size is 0, and then its member is a part like any other.
abbrev pub copies_of : ℕ → Option ℕ
copies_of zero = None
copies_of (suc n) = Some (suc n)

-- How the parts of a node are joined, as in postfix order: a flow's one after the other; `and` and `all`, `or` and `some`, `xor` and `one`.
abbrev pub form_of : Kind → Form
form_of Flow = Joined Seq None
form_of Leaf = LeafForm
form_of And = Joined AndCode None
form_of Or = Joined OrCode None
form_of Xor = Joined XorCode None
form_of (All size) = Joined AndCode (copies_of size)
form_of (SomeKind size) = Joined OrCode (copies_of size)
form_of (One size) = Joined XorCode (copies_of size)
form_of Loop = LoopForm

abbrev pub leaf_form : Form → Bool
leaf_form LeafForm = true
leaf_form LoopForm = false
leaf_form (Joined code copies) = false

-- Node i: its kind, its form, its depth and the place of its name; past the last there is a leaf of depth 0.
abbrev pub kind_at : List Node → ℕ → Kind
kind_at ns i = (get_or ns i blank_node).kind

abbrev pub form_at : List Node → ℕ → Form
form_at ns i = form_of (kind_at ns i)

abbrev pub depth_at : List Node → ℕ → ℕ
depth_at ns i = (get_or ns i blank_node).depth

abbrev pub name_at : List Node → ℕ → ℕ
name_at ns i = (get_or ns i blank_node).name
