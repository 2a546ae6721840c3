-- From a setter's text to the record that it leaves, and from a getter's text to its answer, on every record; from the two, set
-- and get. The text's lines say operations, and the laws of records say what those do. Assumes nothing.
use Rattle.std.proofs.lemmas.Option.{option_and_then_some}
use Rattle.std.specs.Option.{option_map, option_and_then}
use Rattle.std.specs.Prelude.{◌≡◌, ℕ, ◌^◌, ◌<◌, true, List, [], ◌∷◌, ◌++◌}
use mathlib.Core.Path.{refl, sym, ap, ◌∙◌, subst, fun_ext}
use mathlib.Core.Logic.{inl, inr}
use Rattle.std.specs.Prelude.{Option, None, Some}
use Rattle.text.specs.Bytes.{Str, ascii}
use Rattle.text.specs.Lines.{FormattedTexts, Indent, Branch, Line, none as no_more, ◌&◌, to_lines, flat_map, stringify, spaces}
use Rattle.calls.specs.Calls.{set_tag}
use Rattle.record.specs.Lines.{Tag, get_line, tag_then, function_text, getter_lines}
use Rattle.record.specs.Masks.{get_mask_text, mask_bits}
use Rattle.record.specs.Offsets.{Place, bit_count}
use Rattle.record.specs.Record.{Record, put_value, Holds, Same}
use Rattle.record.specs.Types.{place_of, tag_place}
use Rattle.record.proofs.RecordLaws.{after, put-inside, put-held, put-length, after_same, get_after, get_set, get_other}
use Rattle.meaning.specs.Reading.{value, constant}
use Rattle.meaning.specs.Claims.{TagFits, TagHolds, TagHas, TagClear, TagIs, void_leaves, setter_leaves, SetterLeft}
use Rattle.meaning.specs.Claims.{TextGetHolds, TextSetHolds, SetterMeansHolds, SetterLeavesHolds, TextVoidHolds}
use Rattle.meaning.specs.Claims.{TextVoidSetHolds, TextSetGetHolds}
use Rattle.meaning.specs.Meaning.{Op, set_op, whole, lines, inner, run_op}
use Rattle.meaning.specs.Meaning.{run_setter, run_getter}
use Rattle.meaning.proofs.CallLaws.{gets-line}
use Rattle.meaning.proofs.LineLaws.{Wholes, whole-get, lines-stringify, lines-first, indented, wholes_indented}
use Rattle.meaning.proofs.LineLaws.{says-set, says_tag, Saying, wholes_saying, run_ops, run_lines_lem, inner-body}
use Rattle.meaning.proofs.MaskLaws.{slot-size, mask_below}

-- ---- a function's text

-- lines as the trees of a body
abbrev pub body : List Str → FormattedTexts
body [] = no_more
body (l ∷ ls) = Line l & body ls

body-lines : (ls : List Str) → flat_map (body ls) 1 ≡ indented 4 ls
unfolding to_lines flat_map
body-lines [] = refl
body-lines (l ∷ ls) = ap (λ (x : List Str). (spaces 4 ++ l) ∷ x) (body-lines ls)

-- the lines between the first two and the last
pub function-inner : (opening : Str) (ls : List Str) → whole opening ≡ true → Wholes ls
    → inner (lines (function_text opening (body ls))) ≡ Some (indented 4 ls)
unfolding function_text to_lines flat_map
function-inner opening ls h w =
    ap inner
    (lines-stringify
    (Branch (Line (ascii "#[inline]") & Line opening & Indent (Branch (body ls)) & Line (ascii "}") & no_more))
    (ascii "#[inline]") (opening ∷ (indented 4 ls ++ (ascii "}" ∷ [])))
    (ap (λ (x : List Str). ascii "#[inline]" ∷ opening ∷ (x ++ (ascii "}" ∷ []))) (body-lines ls))
    (Wholes.add (ascii "#[inline]") refl (Wholes.add opening h (wholes_indented 4 w (Wholes.add (ascii "}") refl Wholes.nil)))))
    ∙ inner-body (ascii "#[inline]") opening (ascii "}") (indented 4 ls)

-- a setter's text does what its lines say
pub setter-runs : {ls : List Str} {os : List Op} (opening : Str) → whole opening ≡ true → Saying ls os → (v : ℕ) (r : Record)
    → run_setter (function_text opening (body ls)) v r ≡ run_ops (Some v) os r
unfolding run_setter
setter-runs {ls} opening h s v r = rw (function-inner opening ls h (wholes_saying s)) (run_lines_lem (Some v) 4 s r)

-- A GETTER: its text is its one get
pub get_holds : TextGetHolds
unfolding run_getter getter_lines
get_holds typ is_reader k o m r h f =
    let l : Str = get_line is_reader k o (option_map (get_mask_text k) m) in
    let code : lines (stringify (Line l) 0) ≡ l ∷ [] =
    lines-stringify (Line l) l [] (unfold to_lines in refl) (Wholes.add l (whole-get is_reader k o m) Wholes.nil) in
    rw (lines-first typ (stringify (Line l) 0) h, code, gets-line is_reader k o m f)

-- ---- the tag

abbrev tag_ops : Option Tag → List Op
tag_ops None = []
tag_ops (Some t) = set_op (tag_place t.0) (constant t.1) 0 ∷ []

abbrev tagged : Option Tag → Record → Record
tagged None r = r
tagged (Some t) r = after (tag_place t.0) t.1 0 r

tag_same : (tag : Option Tag) (r : Record) → TagHolds tag r → Same (TagHas tag) r (tagged tag r)
tag_same None r h = record { length-same = refl; bits-same = λ b _. refl; pointers-same = refl }
tag_same (Some t) r h = after_same (tag_place t.0) t.1 0 r h

tag_is : (tag : Option Tag) (r : Record) → TagFits tag → TagHolds tag r → TagIs tag (tagged tag r)
tag_is None r f h = tt
tag_is (Some t) r f h = get_set (tag_place t.0) t.1 0 r h f

-- the lines of a setter's body
abbrev tag_lines : Option Tag → List Str → List Str
tag_lines None more = more
tag_lines (Some t) more = set_tag t.0 t.1 ∷ more

body_tag : (tag : Option Tag) (more : List Str) → tag_then tag (body more) ≡ body (tag_lines tag more)
body_tag None more = refl
body_tag (Some t) more = refl

saying_tag : (tag : Option Tag) → TagFits tag → {ls : List Str} {os : List Op} → Saying ls os
    → Saying (tag_lines tag ls) (tag_ops tag ++ os)
saying_tag None f s = s
saying_tag (Some t) f s = Saying.add (says_tag t.0 t.1 f) s

-- a setter's text: its tag, then what its other lines say
pub tagged-runs : {ls : List Str} {os : List Op} (opening : Str) → whole opening ≡ true → (tag : Option Tag) → TagFits tag
    → Saying ls os
    → (v : ℕ) (r : Record)
    → run_setter (function_text opening (tag_then tag (body ls))) v r ≡ run_ops (Some v) (tag_ops tag ++ os) r
tagged-runs {ls} opening h tag f s v r =
    ap (λ (b : FormattedTexts). run_setter (function_text opening b) v r) (body_tag tag ls)
    ∙ setter-runs opening h (saying_tag tag f s) v r

-- ---- what a setter's text leaves, of any record

run_tag : (v : Option ℕ) (tag : Option Tag) (os : List Op) (r : Record)
    → run_ops v (tag_ops tag ++ os) r ≡ option_and_then (run_ops v os) (void_leaves tag r)
unfolding run_ops run_op
run_tag v None os r = refl
run_tag v (Some t) os r = refl

run_end : (v : Option ℕ) (o : Option Record) → option_and_then (run_ops v []) o ≡ o
unfolding run_ops
run_end v None = refl
run_end v (Some r) = refl

run_set : (p : Place) (m v : ℕ) (r : Record) → run_ops (Some v) (set_op p value m ∷ []) r ≡ put_value p v m r
unfolding run_ops run_op
run_set p m v r = run_end (Some v) (put_value p v m r)

-- A SETTER: the tag's write, then the value's
pub set_holds : TextSetHolds
set_holds opening tag k o ms v r h f fs =
    let p : Place = place_of k o in
    tagged-runs opening h tag f (Saying.add (says-set k o ms fs) Saying.nil) v r
    ∙ run_tag (Some v) tag (set_op p value (mask_bits ms) ∷ []) r
    ∙ ap (λ (f : Record → Option Record). option_and_then f (void_leaves tag r)) (fun_ext (λ x. run_set p (mask_bits ms) v x))

pub void-holds : TextVoidHolds
void-holds opening tag v r h f =
    tagged-runs opening h tag f Saying.nil v r ∙ run_tag (Some v) tag [] r ∙ run_end (Some v) (void_leaves tag r)

-- ---- where it has a meaning

void-left : (tag : Option Tag) (r : Record) → TagHolds tag r → void_leaves tag r ≡ Some (tagged tag r)
void-left None r t = refl
void-left (Some x) r t = put-inside (tag_place x.0) x.1 0 r t

-- the slot is held after the tag's write where it was held before
still_held : (tag : Option Tag) (p : Place) (r : Record) → TagHolds tag r → Holds p r → Holds p (tagged tag r)
still_held tag p r t h = rw (tag_same tag r t).length-same h

setter-left : (tag : Option Tag) (p : Place) (v m : ℕ) (r : Record) → Holds p r → TagHolds tag r
    → setter_leaves tag p v m r ≡ Some (after p v m (tagged tag r))
setter-left tag p v m r h t =
    ap (λ (o : Option Record). option_and_then (put_value p v m) o) (void-left tag r t)
    ∙ put-inside p v m (tagged tag r) (still_held tag p r t h)

setter-held : (tag : Option Tag) (p : Place) (v m : ℕ) (r s : Record) → setter_leaves tag p v m r ≡ Some s
    → Holds p r × TagHolds tag r
setter-held None p v m r s e = (put-held p v m r s e, tt)
setter-held (Some t) p v m r s e =
    let q : Place = tag_place t.0 in
    option_and_then_some (put_value p v m) (put_value q t.1 0 r) s e
    (λ x there rest. (rw (put-length q t.1 0 r x there) at (put-held p v m x s rest), put-held q t.1 0 r x there))

pub setter_means : SetterMeansHolds
setter_means tag p v m r =
    (λ h t. (after p v m (tagged tag r), setter-left tag p v m r h t), λ s e. setter-held tag p v m r s e)

-- ---- what it leaves

-- the tag stands after the set, where the two have no bit in common
tag_stays : (tag : Option Tag) (p : Place) (v m : ℕ) (r : Record) → TagFits tag → TagHolds tag r → Holds p (tagged tag r)
    → TagClear tag p → TagIs tag (after p v m (tagged tag r))
tag_stays None p v m r f t h c = tt
tag_stays (Some x) p v m r f t h c =
    get_other p v m (after (tag_place x.0) x.1 0 r) h (tag_place x.0) 0 c ∙ tag_is (Some x) r f t

left_after : (tag : Option Tag) (p : Place) (v m : ℕ) (r : Record) → TagFits tag → v < 2 ^ bit_count p → m < 2 ^ bit_count p
    → Holds p r → TagHolds tag r → SetterLeft tag p v m r (after p v m (tagged tag r))
left_after tag p v m r f hv hm h t =
    let s = tag_same tag r t in
    let h' : Holds p (tagged tag r) = still_held tag p r t h in
    let a = after_same p v m (tagged tag r) h' in
    record {
      reads = λ k hk. get_after p v m (tagged tag r) h' k hv hm hk;
      same = record {
        length-same = a.length-same ∙ s.length-same;
        bits-same = λ b g. a.bits-same b (λ x. g (inl x)) ∙ s.bits-same b (λ x. g (inr x));
        pointers-same = a.pointers-same ∙ s.pointers-same;
      };
      tagged = tag_stays tag p v m r f t h';
    }

pub setter-leaves : SetterLeavesHolds
setter-leaves tag p v m r left f hv hm e =
    let x = setter-held tag p v m r left e in
    let d : Some (after p v m (tagged tag r)) ≡ Some left = sym (setter-left tag p v m r x.0 x.1) ∙ e in
    let g : after p v m (tagged tag r) ≡ left = cc in
    subst (λ (s : Record). SetterLeft tag p v m r s) g (left_after tag p v m r f hv hm x.0 x.1)

-- ---- the Void setter, where its tag is held

pub void-set-holds : TextVoidSetHolds
void-set-holds opening tag v r h f t =
    record {
      left = tagged tag r;
      runs = void-holds opening tag v r h f ∙ void-left tag r t;
      same = tag_same tag r t;
      tagged = tag_is tag r f t;
    }

-- SET AND GET: a setter alone, then a getter alone
pub set-get-holds : TextSetGetHolds
set-get-holds opening tag k o ms mg v r h f fs fg hv hp t =
    let p = place_of k o in
    let n = slot-size k o in
    let run = (setter_means tag p v (mask_bits ms) r).0 hp t in
    let x = setter-leaves tag p v (mask_bits ms) r run.0 f (rw n hv) (rw n (mask_below k ms fs)) run.1 in
    record {
      left = run.0;
      runs = set_holds opening tag k o ms v r h f fs ∙ run.1;
      answers = λ typ w is_reader.
          get_holds typ is_reader k o mg run.0 w fg ∙ ap Some (x.reads (mask_bits mg) (rw n (mask_below k mg fg)));
      same = x.same;
      tagged = x.tagged;
    }
