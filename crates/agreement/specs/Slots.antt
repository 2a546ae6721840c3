-- A slot of a sheet's bytes, found by the id of its node and its place, and the texts of its requests. Assumes nothing.
use Rattle.std.specs.Prelude.{◌≡◌, ℕ, ◌-◌, Bool, take, drop, ◌==◌, Ok}
use Rattle.std.specs.Prelude.{Option, None, Some}
use Rattle.text.specs.Bytes.{Str, cond}
use Rattle.text.specs.declared.Text.{Text}
use Rattle.tree.specs.Tree as arm
use Rattle.tree.specs.Tree.{Slot, Field, Node, Sheet}
use Rattle.tree.specs.Read.{sheet, admitted}
use Rattle.codegen_types.specs.Out.{ok}
use Rattle.record.specs.Lines.{Tag}
use Rattle.record.specs.Masks.{set_mask, mask_bits}
use Rattle.record.specs.Offsets.{Place}
use Rattle.record.specs.Types.{Kind, place_of}
use Rattle.meaning.specs.Claims.{expected}
use Rattle.requests.specs.Requests.{field_at, of_field, gives, outcome_of}
use Rattle.requests.specs.Told.{Answered}
use Rattle.requests.specs.declared.Accessor.{Accessor}

-- generated: the request for an accessor gets a text at a level, given room
abbrev pub Generated : Str → ℕ → ℕ → Accessor → ℕ → Str → Type 0
Generated s id place accessor level w = outcome_of (admitted s) id (of_field place accessor) level ≡ gives w

-- the bytes of a buffer from one fill count up to another
abbrev pub bytes_between : ℕ → ℕ → Str → Str
bytes_between from upto l = take (upto - from) (drop from l)

-- w are the answered bytes of an accessor: a run of the entry, over any buffer and at any state of any level, is done and left
-- them between its two fill counts
pub record Ran (s : Str) (id place : ℕ) (accessor : Accessor) (w : Str) : Type 0 where
  pub buffer : Str
  pub state : Text
  pub left : Str
  pub after : Text
  pub answered : Answered buffer state (outcome_of (admitted s) id (of_field place accessor) state.level) left (Ok after)
  pub bytes : w ≡ bytes_between state.at after.at left

-- a tag: none where the discriminant is 65535, else the 16 bits at the node's tag offset
abbrev pub tag_of : ℕ → ℕ → Option Tag
tag_of tag_offset discriminant = cond (discriminant == 65535) None (Some (tag_offset, discriminant))

-- the F line's flag
abbrev pub is_explicit : Slot → Bool
is_explicit s = s.explicit == 1

-- a slot, at a place of the node with an id, in the sheet with the bytes s
pub record SlotAt (s : Str) (id place : ℕ) : Type 0 where
  pub tree : Sheet
  pub node : Node
  pub field : Field
  pub slot : Slot
  pub is-admitted : admitted s ≡ sheet tree
  pub is_found : field_at tree.nodes id place ≡ ok (node, field)
  pub is-slot : field.arm ≡ arm.slot slot

module _ {s : Str} {id place : ℕ} (a : SlotAt s id place) where
  -- the number of its kind
  abbrev pub slot_kind : ℕ
  slot_kind = arm.kind a.slot.ty

  -- its tag, if it has one
  abbrev pub tag_at : Option Tag
  tag_at = tag_of a.node.tag_offset a.field.discriminant

  -- its bits, as a slot of kind k
  abbrev pub place_at : Kind → Place
  place_at k = place_of k a.slot.offset

  -- its V line is of its T line's kind
  abbrev pub OwnDefault : Type 0
  OwnDefault = a.slot.default.kind ≡ slot_kind

  -- the bits that its present setter masks with, 0 where it has no mask
  abbrev pub setter_mask : Kind → ℕ
  setter_mask k = mask_bits (set_mask k a.slot.default.bits (is_explicit a.slot))

  -- what the value v reads as
  abbrev pub expected_at : Kind → ℕ → ℕ
  expected_at k v = expected k a.slot.default.bits (is_explicit a.slot) v
