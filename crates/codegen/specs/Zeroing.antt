-- `zero_fields_of_group` of codegen.rs: the lines that clear a group's tag, its slots and the groups inside it, and the flag for
-- `mut`. Assumes nothing.
use Rattle.std.specs.Prelude.{ℕ, zero, suc, Bool, false, List, [], ◌∷◌, ◌==◌}
use Rattle.std.specs.Prelude.{Option, None, Some}
use Rattle.text.specs.Bytes.{Str, ascii, cond, either, same}
use Rattle.text.specs.Lines.{FormattedText, FormattedTexts, Branch, Line, none, ◌&◌, stringify}
use Rattle.tree.specs.Tree.{kind, Slot, Arm, slot, group, Field, Node, Sheet}
use Rattle.codegen_types.specs.Out.{Out, ok, refused, ◌then◌}
use Rattle.codegen_types.specs.TypeString.{is_prim, is_pointer, node_of}
use Rattle.calls.specs.Calls.{zero_bool, zero_data, zero_tag, clear_pointer}
use Rattle.codegen_types.specs.Primitive.{primitive_text}

-- what it gives: `result`, and whether a line of it clears a pointer
pub record Zeroing : Type 0 where
  pub result : FormattedTexts
  pub clear : Bool

-- the line of a slot by its type; Void has none
unfoldable pub zero_line : Slot → Option Str
zero_line s =
    cond (kind s.ty == 0) None
    (cond (kind s.ty == 1) (Some (zero_bool s.offset))
    (cond (is_prim s.ty) (Some (zero_data (primitive_text (kind s.ty)) s.offset))
    (cond (kind s.ty == 15) (Some (zero_data (ascii "u16") s.offset))
    (Some (clear_pointer s.offset)))))

-- result.contains(&line), by the lines of this group: those of a group inside it stand in a Branch of their own
unfoldable pub contains : List Str → Str → Bool
contains [] line = false
contains (l ∷ ls) line = either (same l line) (contains ls line)

-- result.push(..), in front of what the fields after it give
abbrev pub push : FormattedText → Bool → Zeroing → Zeroing
push ft clear z = record { result = ft & z.result; clear = either clear z.clear }

abbrev pub no_push : Bool → Zeroing → Zeroing
no_push clear z = record { result = z.result; clear = either clear z.clear }

-- a slot, after the lines `seen` of this group and before what `more` gives after the lines so far
abbrev pub zero_slot : List Str → Bool → Option Str → (List Str → Out Zeroing) → Out Zeroing
zero_slot seen clear None more = more seen
zero_slot seen clear (Some line) more =
    cond (contains seen line)
    (more seen then λ z. ok (no_push clear z))
    (more (line ∷ seen) then λ z. ok (push (Line line) clear z))

-- a field; `inner` is zero_fields_of_group of a group inside this one
abbrev pub zero_field : (ℕ → Out Zeroing) → List Str → Arm → (List Str → Out Zeroing) → Out Zeroing
zero_field inner seen (group id) more =
    inner id then λ g. more seen then λ z. ok (push (Branch g.result) g.clear z)
zero_field inner seen (slot s) more = zero_slot seen (is_pointer s.ty) (zero_line s) more

unfoldable pub zero_fields : (ℕ → Out Zeroing) → List Str → List Field → Out Zeroing
zero_fields inner seen [] = ok (record { result = none; clear = false })
zero_fields inner seen (f ∷ fs) = zero_field inner seen f.arm (λ seen'. zero_fields inner seen' fs)

-- the tag's line first, where the node has a tag
abbrev pub zero_node : (ℕ → Out Zeroing) → Node → Out Zeroing
zero_node inner n =
    cond (n.tag_count == 0) (zero_fields inner [] n.fields)
    (zero_fields inner (zero_tag n.tag_offset ∷ []) n.fields then λ z. ok (push (Line (zero_tag n.tag_offset)) false z))

-- the 17th level is 4 before its node is looked up; a node that is no struct is 14
unfoldable pub zero_fields_of_group : Sheet → ℕ → ℕ → Out Zeroing
zero_fields_of_group sheet zero id = refused 4
zero_fields_of_group sheet (suc left) id =
    node_of sheet.nodes id then λ n.
    cond (n.is_struct == 1) (zero_node (zero_fields_of_group sheet left) n) (refused 14)

-- the text of a zeroing's request, for the group with this id, at a level
unfoldable pub zeroing_request : Sheet → ℕ → ℕ → Out Str
zeroing_request sheet id level = zero_fields_of_group sheet 16 id then λ z. ok (stringify (Branch z.result) level)
