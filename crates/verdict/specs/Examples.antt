-- Worked verdicts and a worked report, computed. Assumes nothing.
use Rattle.std.specs.Prelude.{◌≡◌, ◌^◌, List, [], ◌∷◌, ◌++◌, refl, Option, None, Some}
use Rattle.text.specs.Bytes.{ascii}
use Rattle.text.specs.Decimal.{decimal}
use Rattle.tree.specs.Tree.{plain, enum, end, slot, group, Field, Node, Sheet}
use Rattle.tree.specs.Read as read
use Rattle.tree.specs.Worked.{slot_of, named_field, lone_slot, node, worked_sheet}
use Rattle.codegen_types.specs.TypeString.{type_string, node_of}
use Rattle.codegen.specs.Default.{prim_default, getter_mask}
use Rattle.codegen.specs.Getter.{getter_text, getter_request}
use Rattle.codegen.specs.Profiles.{present_mask}
use Rattle.codegen.specs.Setter.{generate_setter, setter_request}
use Rattle.nodes.specs.Index.{by_id}
use Rattle.requests.specs.Requests.{accessor_text}
use Rattle.verdict.specs.Verdict.{is_generated, masks_verdict, verdict_of}
use Rattle.verdict.specs.Report.{judged, judged_line, tally, refusal_text, report_text}
use Rattle.verdict.specs.declared.Verdict.{Verdict}
use Rattle.verdict.specs.declared.Verdict.TheVariants.{Agree, SignFlipped, CombinedWithDefault, NotBothGenerated}

-- the bed's isFree, a Bool with default true
abbrev free : Field
free = lone_slot "isFree" (plain 1) 3 1 1

-- its status, an enum with default 2 without its flag; the same with its flag; and with default 0 without its flag
abbrev status : Field
status = lone_slot "status" (enum 8 end) 1 0 2

abbrev planned : Field
planned = lone_slot "planned" (enum 8 end) 1 1 2

abbrev initial : Field
initial = lone_slot "initial" (enum 8 end) 1 0 0

-- a Float32 and a Float64 with default -0.0
abbrev heat : Field
heat = lone_slot "heat" (plain 10) 1 1 (2 ^ 31)

abbrev height : Field
height = lone_slot "height" (plain 11) 1 1 (2 ^ 63)

-- a Float64 whose default has a Float32's sign
abbrev tiny : Field
tiny = lone_slot "tiny" (plain 11) 1 1 (2 ^ 31)

-- a Bool whose V line is an Int8's, and a Bool that is an option
abbrev odd : Field
odd = named_field "odd" 65535 (slot (slot_of (plain 1) 5 1 2 3 []))

abbrev maybe : Field
maybe = named_field "maybe" 65535 (slot (record {
  offset = 6;
  explicit = 0;
  option = 1;
  ty = plain 1;
  default = record { kind = 1; bits = 0 };
  words = [];
}))

-- an enum of which there is no node, a Text, a Void and a group
abbrev lost : Field
lost = lone_slot "lost" (enum 9 end) 1 0 2

abbrev guest : Field
guest = lone_slot "guest" (plain 12) 1 0 0

abbrev vacant : Field
vacant = lone_slot "vacant" (plain 0) 0 0 0

abbrev stay : Field
stay = named_field "stay" 65535 (group 7)

-- the bed, with the enum of its status
abbrev bed : List Field → Node
bed fields = node 7 "bed" 1 4 fields

abbrev with_enum : List Field → Sheet
with_enum fields = worked_sheet (bed fields ∷ node 8 "status" 0 0 [] ∷ [])

abbrev verdict_is : Field → Option Verdict → Type 0
verdict_is f v = verdict_of (with_enum (f ∷ [])) (bed (f ∷ []), f) ≡ v

pub worked-verdicts :
    verdict_is free (Some Agree)
    × verdict_is status (Some CombinedWithDefault) × verdict_is planned (Some Agree) × verdict_is initial (Some Agree)
    × verdict_is heat (Some SignFlipped) × verdict_is height (Some SignFlipped) × verdict_is tiny (Some Agree)
    × verdict_is odd (Some NotBothGenerated) × verdict_is maybe (Some NotBothGenerated) × verdict_is lost (Some NotBothGenerated)
    × verdict_is guest None × verdict_is vacant None × verdict_is stay None
unfolding verdict_of is_generated masks_verdict accessor_text type_string node_of by_id getter_text getter_request getter_mask
    generate_setter setter_request present_mask prim_default
worked-verdicts = (refl, refl, refl, refl, refl, refl, refl, refl, refl, refl, refl, refl, refl)

-- the report of a sheet of two structs: the slots that disagree stand first
abbrev ward : Sheet
ward = worked_sheet (
    bed (free ∷ status ∷ guest ∷ heat ∷ odd ∷ [])
    ∷ node 8 "status" 0 0 []
    ∷ node 9 "ward" 0 0 (initial ∷ status ∷ [])
    ∷ [])

pub worked-report :
    report_text (read.sheet ward)
    ≡ ascii "node 7 status: combined with the default\n"
    ++ ascii "node 7 heat: sign flipped\n"
    ++ ascii "node 9 status: combined with the default\n"
    ++ ascii "node 7 isFree: agree\n"
    ++ ascii "node 7 odd: not both generated\n"
    ++ ascii "node 9 initial: agree\n"
    ++ ascii "6 slots, 3 disagree\n"
unfolding decimal verdict_of is_generated masks_verdict accessor_text type_string node_of by_id getter_text getter_request
    getter_mask generate_setter setter_request present_mask prim_default judged judged_line tally
worked-report = refl

-- of a sheet without slots, and of a refused one
pub other-reports :
    (report_text (read.sheet (with_enum [])) ≡ ascii "0 slots, 0 disagree\n")
    × (report_text (read.refused 2 3 1) ≡ ascii "refused 2 line 3 column 1\n")
unfolding decimal judged tally refusal_text
other-reports = (refl, refl)
