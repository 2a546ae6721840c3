-- Worked cases of the paired setter and of verdicts, computed from the bytes of crate agreement's bed: isFree with default true,
-- the bed's status with default 2 without and with its flag, an enum's default 0 with its flag, a Float32 with default -0.0, a
-- member of a union, isFree moved in. The record is sixteen bytes 165. Assumes nothing.
use Rattle.std.specs.Option.{option_and_then}
use Rattle.std.specs.Prelude.{◌≡◌, ◌^◌, ◌<◌, Bool, true, false, ◌++◌}
use Rattle.std.specs.Prelude.{refl}
use Rattle.std.proofs.Common.{arith}
use Rattle.std.specs.Prelude.{None, Some}
use Rattle.text.specs.Bytes.{Str, ascii, same}
use Rattle.text.specs.Answer as text
use Rattle.text.specs.Decimal.{decimal, signed}
use Rattle.text.specs.Lines.{to_lines, flat_map, join, stringify, margin}
use Rattle.column.specs.Texts.{are_chars}
use Rattle.names.specs.Names.{taken, snake_from, camel_to_snake_case}
use Rattle.tree.specs.Tree.{slot}
use Rattle.tree.specs.Worked.{named_field}
use Rattle.codegen_types.specs.Out.{ok, refused}
use Rattle.codegen_types.specs.TypeString as types
use Rattle.codegen_types.specs.TypeString.{type_string}
use Rattle.calls.specs.Calls.{get_bool_field, get_data_field, set_bool_field, set_data_field}
use Rattle.codegen.specs.Default.{value, prim_default, getter_mask}
use Rattle.codegen.specs.Getter.{getter_text, getter_request}
use Rattle.codegen.specs.Profiles.{present_mask, paired_mask}
use Rattle.codegen.specs.Setter.{generate_setter, setter_request}
use Rattle.nodes.specs.Index.{by_id, nth}
use Rattle.record.specs.Record.{found, stored, get_bits, put_bits, Holds}
use Rattle.record.specs.Types as kinds
use Rattle.record.specs.Types.{float32, bool, num, kind_of, slot_bits}
use Rattle.meaning.specs.Claims.{TagHolds, TagClear}
use Rattle.meaning.specs.Examples.{some16}
use Rattle.meaning.specs.Reading.{type_name, truth, get_mask_of, set_mask_of, data_arg, bool_arg}
use Rattle.meaning.specs.Meaning.{writes, gets, gets_in, run_op, run_line, run_lines, run_setter, run_getter}
use Rattle.requests.specs.Requests.{field_at, accessor_text, of_field, outcome, outcome_of, state_refusal}
use Rattle.requests.specs.Requests as requests
use Rattle.requests.specs.declared.Accessor.TheVariants.{Getter, Setter, PairedSetter}
use Rattle.verdict.specs.Verdict.{is_generated, masks_verdict, verdict_of}
use Rattle.verdict.specs.declared.Verdict.{Verdict}
use Rattle.verdict.specs.declared.Verdict.TheVariants.{Agree, SignFlipped, CombinedWithDefault, NotBothGenerated}
use Rattle.agreement.specs.Slots.{Ran, SlotAt, slot_kind, tag_at, place_at}
use Rattle.agreement.proofs.Examples.{Example, PutAround, tree, bed, bytes, slot_at, ran_bytes}
use Rattle.agreement.proofs.Examples.{setter_with, example, no_bytes, cleaned}
use Rattle.agreement.proofs.Examples.{free, no_flag, with_flag, negative_zero, member, moved_in, odd, odd_setter, guest}
use Rattle.agreement_paired.specs.Paired.{PairedCase, in_three_cases}
use Rattle.agreement_paired.specs.Verdicts.{verdict_at, reads_as}

-- ---- the texts

-- an example with its paired setter's text, in which the value read is the value written
abbrev paired_with : Example → Str → Example
paired_with x w = record {
  place = x.place;
  field = x.field;
  slot = x.slot;
  kind = x.kind;
  level = x.level;
  setter = w;
  getter = x.getter;
  writes = x.writes;
  reads = x.writes;
}

-- the bed's status without its flag: masked with its default's number
abbrev unflagged : Example
unflagged =
    paired_with no_flag
    (setter_with "status(&mut self, value: status" "    self.builder.set_data_field_mask::<u16>(1, value as u16, 2);\n")

-- -0.0: masked with its bits
abbrev negative : Example
negative =
    paired_with negative_zero
    (setter_with "heat(&mut self, value: f32" "    self.builder.set_data_field_mask::<f32>(1, value, 2147483648u32);\n")

-- an enum's default 0 with its flag: plain. The present setter writes the mask 0.
abbrev plain_zero : Example
plain_zero =
    example 9 "cleaned" 65535 cleaned kinds.enum
    (setter_with "cleaned(&mut self, value: status" "    self.builder.set_data_field::<u16>(1, value as u16);\n")
    (ascii "::core::result::Result<status,::capnp::NotInSchema>\n"
    ++ ascii "::core::convert::TryFrom::try_from(self.reader.get_data_field::<u16>(1))\n")
    2 2

abbrev zero_masked : Str
zero_masked = setter_with "cleaned(&mut self, value: status" "    self.builder.set_data_field_mask::<u16>(1, value as u16, 0);\n"

-- ---- set and get

-- An example meets the conditions of the paired setter's set and get, and the value written is read. Its present setter's text is
-- another exactly in the three cases.
pub record Worked (x : Example) (present : Str) (in_three : Bool) (verdict : Verdict) : Type 0 where
  pub at : SlotAt bytes 7 x.place
  pub case : PairedCase at x.kind x.setter true false x.getter x.writes some16
  pub runs : option_and_then (run_getter x.getter) (run_setter x.setter x.writes some16) ≡ Some x.writes
  pub past : Holds (place_at at x.kind) no_bytes → ⊥
  pub no-meaning : run_setter x.setter x.writes no_bytes ≡ None
  pub beside : Ran bytes 7 x.place Setter present
  pub three : in_three_cases at.slot ≡ in_three
  pub says : verdict_at at ≡ Some verdict

-- what is left to compute of an example
module _ (x : Example) (present : Str) (in_three : Bool) (verdict : Verdict)
    (e : field_at tree.nodes 7 x.place ≡ ok (bed, x.field)) (h : x.field.arm ≡ slot x.slot) where
  abbrev here : SlotAt bytes 7 x.place
  here = slot_at x.place x.field x.slot e h

  abbrev worked :
      kind_of (slot_kind here) ≡ Some x.kind
      → requests.request_text tree 7 (of_field x.place PairedSetter) x.level ≡ ok x.setter
      → requests.request_text tree 7 (of_field x.place (Getter true false)) x.level ≡ ok x.getter
      → requests.request_text tree 7 (of_field x.place Setter) x.level ≡ ok present
      → PutAround x.level x.setter → PutAround x.level x.getter → PutAround x.level present
      → x.writes < 2 ^ slot_bits x.kind → Holds (place_at here x.kind) some16 → TagHolds (tag_at here) some16
      → TagClear (tag_at here) (place_at here x.kind)
      → option_and_then (run_getter x.getter) (run_setter x.setter x.writes some16) ≡ Some x.writes
      → (Holds (place_at here x.kind) no_bytes → ⊥) → run_setter x.setter x.writes no_bytes ≡ None
      → in_three_cases here.slot ≡ in_three → verdict_at here ≡ Some verdict
      → Worked x present in_three verdict
  worked k s g b p q o v l t c u n m i y = record {
    at = here;
    case = record {
      has-bits = k;
      setter = ran_bytes x.place PairedSetter x.level x.setter s p;
      getter = ran_bytes x.place (Getter true false) x.level x.getter g q;
      value = v;
      long = l;
      tag_long = t;
      clear = c;
    };
    runs = u;
    past = n;
    no-meaning = m;
    beside = ran_bytes x.place Setter x.level present b o;
    three = i;
    says = y;
  }

-- the three cases
pub three-worked :
    Worked unflagged no_flag.setter true CombinedWithDefault × Worked negative negative_zero.setter true SignFlipped
    × Worked plain_zero zero_masked true Agree
unfolding field_at by_id nth accessor_text same are_chars taken snake_from camel_to_snake_case type_string types.node_of
    get_bool_field get_data_field set_bool_field set_data_field present_mask paired_mask prim_default getter_mask getter_text
    getter_request generate_setter setter_request to_lines flat_map join stringify decimal signed kind_of found stored get_bits
    put_bits type_name truth get_mask_of set_mask_of data_arg bool_arg writes gets gets_in run_op run_line run_lines run_setter
    run_getter margin state_refusal text.answer_of text.buffer_of text.placed is_generated masks_verdict verdict_of
three-worked = (
  worked unflagged no_flag.setter true CombinedWithDefault refl refl refl refl refl refl refl refl refl (omega arith)
      (omega arith) tt tt refl (λ h. omega arith) refl refl refl,
  worked negative negative_zero.setter true SignFlipped refl refl refl refl refl refl refl refl refl (omega arith)
      (omega arith) tt tt refl (λ h. omega arith) refl refl refl,
  worked plain_zero zero_masked true Agree refl refl refl refl refl refl refl refl refl (omega arith)
      (omega arith) tt tt refl (λ h. omega arith) refl refl refl,
)

-- everywhere else the text is the present setter's: isFree, the status with its flag, a member of a union, isFree at level 2
pub others-worked :
    Worked (free 1) (free 1).setter false Agree × Worked with_flag with_flag.setter false Agree
    × Worked member member.setter false Agree × Worked moved_in moved_in.setter false Agree
unfolding field_at by_id nth accessor_text same are_chars taken snake_from camel_to_snake_case type_string types.node_of
    get_bool_field get_data_field set_bool_field set_data_field present_mask paired_mask prim_default getter_mask getter_text
    getter_request generate_setter setter_request to_lines flat_map join stringify decimal signed kind_of found stored get_bits
    put_bits type_name truth get_mask_of set_mask_of data_arg bool_arg writes gets gets_in run_op run_line run_lines run_setter
    run_getter margin state_refusal text.answer_of text.buffer_of text.placed is_generated masks_verdict verdict_of
others-worked = (
  worked (free 1) (free 1).setter false Agree refl refl refl refl refl refl refl refl refl (omega arith) (omega arith) tt tt refl
      (λ h. omega arith) refl refl refl,
  worked with_flag with_flag.setter false Agree refl refl refl refl refl refl refl refl refl (omega arith) (omega arith) tt tt
      refl (λ h. omega arith) refl refl refl,
  worked member member.setter false Agree refl refl refl refl refl refl refl refl refl (omega arith) (omega arith) (omega arith)
      (λ b h g. omega arith) refl (λ h. omega arith) refl refl refl,
  worked moved_in moved_in.setter false Agree refl refl refl refl refl refl refl refl refl (omega arith) (omega arith) tt tt refl
      (λ h. omega arith) refl refl refl,
)

-- ---- the masks

-- by kind, flag and default, beside the present ones: -0.0 of both widths, an enum's defaults without and with the flag, a float
-- by its bits, a number with its sign, and defaults of another kind, which both rules refuse alike or mask alike. No rule looks
-- at an option, which refuses the getter.
pub masks-worked :
    (paired_mask 10 0 (value 10 2147483648) ≡ ok (Some (ascii "2147483648u32")))
    × (present_mask 10 0 (value 10 2147483648) ≡ ok None)
    × (paired_mask 11 1 (value 11 9223372036854775808) ≡ ok (Some (ascii "9223372036854775808u64")))
    × (present_mask 11 1 (value 11 9223372036854775808) ≡ ok None)
    × (paired_mask 15 0 (value 15 2) ≡ ok (Some (ascii "2"))) × (present_mask 15 0 (value 15 2) ≡ ok None)
    × (paired_mask 15 1 (value 15 0) ≡ ok None) × (present_mask 15 1 (value 15 0) ≡ ok (Some (ascii "0")))
    × (paired_mask 10 0 (value 10 1069547520) ≡ ok (Some (ascii "1069547520u32")))
    × (paired_mask 2 1 (value 2 251) ≡ ok (Some (ascii "-5"))) × (paired_mask 1 0 (value 1 0) ≡ ok None)
    × (paired_mask 1 1 (value 2 3) ≡ ok (Some (ascii "3"))) × (paired_mask 1 1 (value 12 0) ≡ refused 11)
    × (paired_mask 15 1 (value 2 3) ≡ refused 12) × (paired_mask 15 0 (value 2 3) ≡ ok None)
unfolding present_mask paired_mask prim_default getter_mask decimal signed
masks-worked = (refl, refl, refl, refl, refl, refl, refl, refl, refl, refl, refl, refl, refl, refl, refl)

-- ---- verdicts

-- what 2 reads as under the status' verdict, and what 1.0 does under that of -0.0
pub read_worked :
    (reads_as kinds.enum 2 CombinedWithDefault 2 ≡ Some 0)
    × (reads_as (num float32) 2147483648 SignFlipped 1065353216 ≡ Some 3212836864)
    × (reads_as bool 1 Agree 1 ≡ Some 1) × (reads_as bool 3 NotBothGenerated 1 ≡ None)
read_worked = (refl, refl, refl, refl)

-- odd, whose default is no Bool: its paired setter is the present one, and it has no getter; guest, a Text, has no verdict
pub odd_at : SlotAt bytes 7 7
unfolding field_at by_id nth
odd_at = slot_at 7 (named_field "odd" 65535 (slot odd)) odd refl refl

pub guest_at : SlotAt bytes 7 5
unfolding field_at by_id nth
guest_at = slot_at 5 (named_field "guest" 42405 (slot guest)) guest refl refl

pub odd-worked :
    (in_three_cases odd_at.slot ≡ false) × Ran bytes 7 7 PairedSetter odd_setter × (verdict_at odd_at ≡ Some NotBothGenerated)
    × (kind_of (slot_kind guest_at) ≡ None) × (verdict_at guest_at ≡ None)
unfolding odd_at guest_at field_at by_id nth accessor_text are_chars taken snake_from camel_to_snake_case type_string
    set_bool_field present_mask paired_mask prim_default getter_text getter_request generate_setter setter_request to_lines
    flat_map join stringify decimal signed kind_of margin state_refusal text.answer_of text.buffer_of text.placed is_generated
    verdict_of
odd-worked = (refl, ran_bytes 7 PairedSetter 0 odd_setter refl refl, refl, refl, refl)
