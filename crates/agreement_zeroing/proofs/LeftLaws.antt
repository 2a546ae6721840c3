-- The record that a group's zeroing leaves: what crate meaning claims of its zeros, for each slot inside the group. Assumes
-- nothing.
use Rattle.std.specs.Option.{option_map}
use Rattle.std.specs.Prelude.{◌≡◌, ℕ, ◌^◌, ◌<◌, Bool, true, false, ◌⊎◌, [], length, get_or}
use mathlib.Core.Path.{ap, ◌∙◌}
use mathlib.Core.Logic.{inl, inr}
use Rattle.std.specs.Prelude.{Some}
use Rattle.text.specs.Bytes.{Str}
use Rattle.text.specs.Lines.{FormattedTexts, Branch, to_lines, stringify}
use Rattle.tree.specs.Tree.{kind, Sheet}
use Rattle.tree.specs.Read.{sheet, admitted}
use Rattle.codegen_types.specs.Out.{Out, ok, refused, ◌then◌}
use Rattle.codegen_types.specs.TypeString.{is_pointer}
use Rattle.calls.specs.Calls.{clear_pointer}
use Rattle.codegen.specs.Zeroing as codegen
use Rattle.codegen.specs.Zeroing.{Zeroing, zero_fields_of_group, zeroing_request}
use Rattle.record.specs.Lines.{get_line, getter_lines, zero_call, zero_texts}
use Rattle.record.specs.Masks.{get_mask, get_mask_text}
use Rattle.record.specs.Record.{Record, null}
use Rattle.record.specs.Types.{Kind, slot_bits, kind_of}
use Rattle.meaning.specs.Claims as meaning
use Rattle.meaning.specs.Claims.{In}
use Rattle.meaning.specs.Meaning.{whole, run_getter, run_zeroing}
use Rattle.meaning.proofs.MaskLaws.{get_mask_bits}
use Rattle.meaning.proofs.ZeroLaws.{zeroing_holds}
use Rattle.agreement.specs.Slots.{SlotAt}
use Rattle.agreement.proofs.AloneLaws.{get-fits}
use Rattle.agreement_zeroing.specs.Zeroing.{Inside, EachWrite, LongEnough, SparesBit, SparesPointer}
use Rattle.agreement_zeroing.proofs.LineLaws.{slot-line, pointer-line}
use Rattle.agreement_zeroing.proofs.GroupLaws.{Given, Covers, Due, group-covers}
use Rattle.agreement_zeroing.proofs.InsideLaws.{due-inside}
use Rattle.agreement_zeroing.proofs.TextLaws.{holds-zeros, spares_bit, spares_pointer}

-- a zeroing text of a group at level 0, the code that it is of, and a record that is long enough for it
pub record Run (s : Str) (g : ℕ) (w : Str) (r : Record) : Type 0 where
  pub tree : Sheet
  pub is-admitted : admitted s ≡ sheet tree
  pub code : FormattedTexts
  pub text : w ≡ stringify (Branch code) 0
  pub covers : Covers (Due tree.nodes g) [] code
  pub long : LongEnough w r

pub run_of : (s : Str) (tree : Sheet) → admitted s ≡ sheet tree → (g : ℕ) (w : Str) → zeroing_request tree g 0 ≡ ok w
    → (r : Record) → LongEnough w r → Run s g w r
unfolding zeroing_request
run_of s tree is g w e r long = go (zero_fields_of_group tree 16 g) (group-covers tree 16 g) e
  where
    go : (o : Out Zeroing) → Given o (λ z. Covers (Due tree.nodes g) [] z.result)
        → (o then λ z. ok (stringify (Branch z.result) 0)) ≡ ok w → Run s g w r
    go (ok z) c e = record { tree = tree; is-admitted = is; code = z.result; text = cc; covers = c; long = long }
    go (refused k) c e = cc

module _ {s : Str} {g : ℕ} {w : Str} {r : Record} (c : Run s g w r) where
  zeroed : meaning.TextZeroed c.covers.zeros (Branch c.code) r
  unfolding to_lines
  zeroed =
      zeroing_holds c.covers.zeros (Branch c.code) r c.covers.lines
      (holds-zeros c.covers.zeros (Branch c.code) c.covers.lines r (rw c.text at c.long))

  pub left : Record
  left = zeroed.left

  pub runs : run_zeroing w r ≡ Some left
  unfolding left
  runs = ap (λ (x : Str). run_zeroing x r) c.text ∙ zeroed.runs

  pub lengths : (length left.bits ≡ length r.bits) × (length left.pointers ≡ length r.pointers)
  unfolding left
  lengths = zeroed.lengths

  pub bits-same : (b : ℕ) → EachWrite (SparesBit b) w → get_or left.bits b false ≡ get_or r.bits b false
  unfolding left to_lines
  bits-same b h =
      zeroed.bits-same b (spares_bit c.covers.zeros (Branch c.code) c.covers.lines b (rw c.text at h))

  pub pointers-same : (j : ℕ) → EachWrite (SparesPointer j) w
      → get_or left.pointers j false ≡ get_or r.pointers j false
  unfolding left to_lines
  pointers-same j h =
      zeroed.pointers-same j (spares_pointer c.covers.zeros (Branch c.code) c.covers.lines j (rw c.text at h))

  -- a slot of the group, or of one inside it
  module _ {id : ℕ} (i : Inside s g id) (place : ℕ) (a : SlotAt s id place) where
    among : (l : Str) → codegen.zero_line a.slot ≡ Some l → In l (zero_texts c.covers.zeros)
    among l e = go (c.covers.due l (due-inside s c.tree c.is-admitted i place a l e))
      where
        go : In l [] ⊎ In l (zero_texts c.covers.zeros) → In l (zero_texts c.covers.zeros)
        go (inl x) = absurd x
        go (inr x) = x

    pub default-read : (k : Kind) → kind_of (kind a.slot.ty) ≡ Some k → a.slot.default.bits < 2 ^ slot_bits k
        → (explicit : Bool) (typ : Str) → whole typ ≡ true → (is_reader : Bool)
        → run_getter
        (getter_lines typ
        (get_line is_reader k a.slot.offset (option_map (get_mask_text k) (get_mask k a.slot.default.bits explicit))))
        left
        ≡ Some a.slot.default.bits
    unfolding left
    default-read k e fits explicit typ one is_reader =
        let d : ℕ = a.slot.default.bits in
        zeroed.defaults k a.slot.offset (among (zero_call k a.slot.offset) (slot-line a.slot k e))
        (get_mask k d explicit) (get-fits k d explicit fits) typ one is_reader
        ∙ ap Some (get_mask_bits k d explicit)

    pub absent : is_pointer a.slot.ty ≡ true → null (record { 0 = a.slot.offset }) left ≡ true
    unfolding left
    absent e = zeroed.absent a.slot.offset (among (clear_pointer a.slot.offset) (pointer-line a.slot e))
