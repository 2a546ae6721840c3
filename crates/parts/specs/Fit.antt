-- What a text takes of a buffer that it begins, and what is told of a field's parts that are written so. Assumes nothing.
use Rattle.std.specs.Prelude.{◌≡◌, List, ℕ, ◌+◌, ◌≤◌, ◌<◌, ltb, length, take, ⊤, Option, None, Some, Result, Ok, Err}
use Rattle.text.specs.Bytes.{Str, cond}
use Rattle.tree.specs.Tree as tree
use Rattle.tree.specs.Tree.{Node}
use Rattle.terms.specs.Refusals.{number}
use Rattle.terms.specs.declared.refusals.Refusal.{Refusal}
use Rattle.text.specs.Text.{Wrote, state_at}
use Rattle.text.specs.declared.Text.{Text}
use Rattle.codegen_types.specs.Out.{Out}
use Rattle.nodes.specs.Index.{InSource}
use Rattle.nodes.specs.declared.Source.{Source}
use Rattle.field.specs.Field.{FieldIs}
use Rattle.field.specs.declared.Field.{Field}
use Rattle.requests.specs.Told.{OfField}
use Rattle.parts.specs.Program.{part_text, refused_text, printed_part, each_text, field_text}
use Rattle.parts.specs.declared.Part.{Part}

-- the bytes that a part has at most, by its field's name: a header of 17, the name and 1, a text of 65,536
abbrev pub part_most : Str → ℕ
part_most name = length name + 65554

-- and a unit: five parts of a field whose name has 64
abbrev pub unit_most : ℕ
unit_most = 328090

-- n bytes, if the buffer has them
abbrev pub fit_of : ℕ → ℕ → Option ℕ
fit_of n size = cond (ltb size n) None (Some n)

-- the bytes that are taken are the buffer's
abbrev pub Within : Option ℕ → Str → Type 0
Within (Some n) l = n ≤ length l
Within None l = Unit {0}

-- so many bytes are taken at most, and a buffer that has so many is not too short
abbrev pub TakesAtMost : ℕ → Str → Option ℕ → Type 0
TakesAtMost most l (Some n) = n ≤ most
TakesAtMost most l None = length l < most

-- the bytes that are taken are the text
abbrev pub Puts : Str → Str → Option ℕ → Type 0
Puts text l (Some n) = take n l ≡ text
Puts text l None = Unit {0}

-- a refusal that is found early is what stands under the header
abbrev pub SaidUnder : Result ⊤ Refusal → Str → Type 0
SaidUnder (Err e) text = refused_text (number e) ≡ text
SaidUnder (Ok u) text = Unit {0}

-- what stands under a header, for a text that comes to o: it is written from the start of l on and leaves l', or it is the
-- refusal that is printed in the text's place
abbrev pub Under : Out Str → Str → Str → Result Text Refusal → Type 0
Under o l l' (Ok t) = Wrote l (state_at 0) (part_text o) l' t
Under o l l' (Err e) = refused_text (number e) ≡ part_text o

-- a text is not too long
abbrev pub NotLong : Result Text Refusal → Type 0
NotLong (Ok t) = t.at ≤ 65536
NotLong (Err e) = Unit {0}

-- a field that was read and its name, against a node and its field in the tree
pub record Named (s : Str) (tag : ℕ) (field : Field) (name : Str) (at : Node × tree.Field) : Type 0 where
  pub tag-is : at.0.tag_offset ≡ tag
  pub field_is : FieldIs s field at.1
  pub name-is : name ≡ at.1.name

-- the contracts, in every sheet whose nodes the index has: a part, parts one after the other, all of a field
module _ (x : Source) (tag : ℕ) (field : Field) where
  abbrev pub PartPut : Str → Part → Str → Option ℕ → Type 0
  PartPut name part l r =
      InSource x
      (λ sheet. (at : Node × tree.Field) → Named x.bytes.now tag field name at → Puts (printed_part sheet at part) l r)

  abbrev pub PartsPut : Str → List Part → Str → Option ℕ → Type 0
  PartsPut name parts l r =
      InSource x
      (λ sheet. (at : Node × tree.Field) → Named x.bytes.now tag field name at
      → Puts (each_text (printed_part sheet at) parts) l r)

  abbrev pub FieldPut : Str → Str → Option ℕ → Type 0
  FieldPut l l' r =
      OfField x tag field
      (λ sheet at. length at.1.name ≤ 64 → TakesAtMost unit_most l r × Puts (field_text sheet at.0 at.1) l' r)
