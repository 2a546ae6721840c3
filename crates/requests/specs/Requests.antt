-- What can be requested and what it comes to: document 01, 'What can be requested' and the order of refusals; of document 02 N9,
-- the paired setter, and N14, the level of indentation. Assumes nothing.
use Rattle.std.specs.Prelude.{Bool, List, ℕ, ◌++◌, ltb, length}
use Rattle.std.specs.Prelude.{Option, None, Some}
use Rattle.text.specs.Bytes.{Str, cond}
use Rattle.text.specs.Lines.{margin}
use Rattle.text.specs.Answer as text
use Rattle.tree.specs.Tree.{Arm, slot, group, Field, Node, Sheet}
use Rattle.tree.specs.Read as read
use Rattle.tree.specs.Read.{Admitted}
use Rattle.codegen_types.specs.Out.{Out, ok, refused, or_refused, ◌then◌}
use Rattle.codegen_types.specs.TypeString.{type_string}
use Rattle.codegen_types.specs.declared.Leaf.{Leaf}
use Rattle.field.specs.Slot.{SlotField}
use Rattle.codegen.specs.Getter.{getter_request}
use Rattle.codegen.specs.Profiles.{MaskRule, present_mask, paired_mask}
use Rattle.codegen.specs.Setter.{setter_request}
use Rattle.codegen.specs.Haser.{haser_request}
use Rattle.codegen.specs.Zeroing.{zeroing_request}
use Rattle.nodes.specs.Index.{by_id, nth}
use Rattle.requests.specs.declared.Accessor.{Accessor}
use Rattle.requests.specs.declared.Accessor.TheVariants.{TypeText, Getter, Setter, PairedSetter, Haser, Zeroing}
use Rattle.requests.specs.declared.Request.{Request}
use Rattle.requests.specs.declared.Request.TheVariants as request

-- what may be missing is there, or is 15
abbrev pub there : {A : Type 0} → Option A → Out A
there = or_refused 15

-- the node with an id and its field at a place, from 0, among its F and G lines
unfoldable pub field_at : List Node → ℕ → ℕ → Out (Node × Field)
field_at nodes id place = there (by_id id nodes) then λ n. there (nth place n.fields) then λ f. ok (n, f)

-- a type's text at a level, of a slot alone: the margin and `type_string`; where no leaf is named, 15
unfoldable pub type_text : Sheet → Arm → Option Leaf → ℕ → Out Str
type_text sheet (slot s) leaf level = there leaf then type_string s.ty sheet then λ typ. ok (margin level ++ typ)
type_text sheet (group id) leaf level = refused 15

-- a slot with its field's name and discriminant; accessors of a group are 15
abbrev pub slot_named : Str → ℕ → Arm → Out SlotField
slot_named name discriminant (slot s) = ok (record { name = name; discriminant = discriminant; slot = s })
slot_named name discriminant (group id) = refused 15

abbrev pub slot_field : Field → Out SlotField
slot_field f = slot_named f.name f.discriminant f.arm

-- the id of a group; zeroing of a slot is 15
abbrev pub group_of : Arm → Out ℕ
group_of (slot s) = refused 15
group_of (group id) = ok id

-- the accessors of a slot at a level; `tag` is the offset of its node's tag
abbrev pub slot_getter : Sheet → Bool → Bool → ℕ → SlotField → Out Str
slot_getter sheet is_reader is_fn level f = getter_request sheet f.name f.slot is_reader is_fn level

-- a setter, with the mask that a rule gives
abbrev pub slot_setter : MaskRule → Sheet → ℕ → ℕ → SlotField → Out Str
slot_setter rule sheet tag level f = setter_request rule sheet tag f.name f.discriminant f.slot level

abbrev pub slot_haser : ℕ → Bool → ℕ → SlotField → Out Str
slot_haser tag is_reader level f = ok (haser_request tag f.name f.discriminant f.slot is_reader level)

-- what is asked of a field, at a level: its type's text, or an accessor
unfoldable pub accessor_text : Sheet → Node × Field → Accessor → ℕ → Out Str
accessor_text sheet at (TypeText leaf) level = type_text sheet at.1.arm leaf level
accessor_text sheet at (Getter is_reader is_fn) level = slot_field at.1 then slot_getter sheet is_reader is_fn level
accessor_text sheet at Setter level = slot_field at.1 then slot_setter present_mask sheet at.0.tag_offset level
accessor_text sheet at PairedSetter level = slot_field at.1 then slot_setter paired_mask sheet at.0.tag_offset level
accessor_text sheet at (Haser is_reader) level = slot_field at.1 then slot_haser at.0.tag_offset is_reader level
accessor_text sheet at Zeroing level = group_of at.1.arm then λ id. zeroing_request sheet id level

-- the request for a text of the field at a place
abbrev pub of_field : ℕ → Accessor → Option Request
of_field place accessor = Some (request.Field place accessor)

-- the text of a request of the node with an id, at a level, or the number of its refusal; where there is no request, 15
abbrev pub request_text : Sheet → ℕ → Option Request → ℕ → Out Str
request_text sheet id (Some (request.Field place accessor)) level =
    field_at sheet.nodes id place then λ at. accessor_text sheet at accessor level
request_text sheet id None level = refused 15

-- ---- the answer

-- what a request comes to at a level, the fill count and the room apart: a text, or the number, the line and the column of a
-- refusal
pub data Outcome : Type 0 where
  gives : Str → Outcome
  refuses : ℕ → ℕ → ℕ → Outcome

-- a refusal after the sheet was read names no line and no column
abbrev pub outcome : Out Str → Outcome
outcome (ok s) = gives s
outcome (refused k) = refuses k 0 0

abbrev pub outcome_of : Admitted → ℕ → Option Request → ℕ → Outcome
outcome_of (read.refused k line column) id request level = refuses k line column
outcome_of (read.sheet sheet) id request level = outcome (request_text sheet id request level)

-- the refusal of a fill count and a level over a buffer of so many bytes: 21 comes first, then 36
unfoldable pub state_refusal : ℕ → ℕ → ℕ → Option ℕ
state_refusal size fill level = cond (ltb size fill) (Some 21) (cond (ltb 8 level) (Some 36) None)

-- the answer over the buffer l and a fill count, by the state's refusal: that, the outcome's own, and 22 last
abbrev pub answer_by : Option ℕ → Str → ℕ → Outcome → text.Answer
answer_by (Some k) l fill o = text.refused k 0 0
answer_by None l fill (gives s) = text.answer_of l fill s
answer_by None l fill (refuses k line column) = text.refused k line column

-- the buffer afterwards
abbrev pub buffer_by : Option ℕ → Str → ℕ → Outcome → Str
buffer_by (Some k) l fill o = l
buffer_by None l fill (gives s) = text.buffer_of l fill s
buffer_by None l fill (refuses k line column) = l

-- over the buffer l, a fill count and a level
abbrev pub entry_answer : Str → ℕ → ℕ → Outcome → text.Answer
entry_answer l fill level = answer_by (state_refusal (length l) fill level) l fill

abbrev pub entry_buffer : Str → ℕ → ℕ → Outcome → Str
entry_buffer l fill level = buffer_by (state_refusal (length l) fill level) l fill
