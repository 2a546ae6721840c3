-- What is claimed of zeroing: crate agreement's laws say what the texts of getters and hasers are, and the laws of the record
-- that is left say what they read there. Assumes nothing.
use Rattle.std.specs.Prelude.{ℕ, false}
use mathlib.Core.Path.{sym, ap, ◌∙◌}
use Rattle.std.specs.Prelude.{Some}
use Rattle.text.specs.Bytes.{Str}
use Rattle.codegen.specs.Zeroing.{zeroing_request}
use Rattle.meaning.specs.Meaning.{run_getter}
use Rattle.meaning.proofs.HaserLaws.{has-absent}
use Rattle.meaning.proofs.LevelLaws.{zeroing-alike, getter-alike}
use Rattle.requests.specs.Requests.{accessor_text}
use Rattle.requests.proofs.LevelLaws.{zeroing-levels}
use Rattle.requests.specs.declared.Accessor.TheVariants.{Zeroing}
use Rattle.agreement.specs.Slots.{Ran, tag_at}
use Rattle.agreement.proofs.AnsweredLaws.{ran_generated}
use Rattle.agreement.proofs.ClaimLaws.{given-ok, getter-text, haser-holds}
use Rattle.agreement.proofs.GetterLaws.{getter-given}
use Rattle.agreement.proofs.LevelLaws.{Flat, flat}
use Rattle.agreement.proofs.AloneLaws.{own_fits}
use Rattle.agreement.proofs.SheetLaws.{bounds}
use Rattle.agreement_zeroing.specs.Zeroing.{GroupAt, HoldsOp, SparesBit, SparesPointer, ZeroingHolds}
use Rattle.agreement_zeroing.proofs.TextLaws.{each-alike}
use Rattle.agreement_zeroing.proofs.LeftLaws.{run_of, left, runs, lengths, bits-same, pointers-same, default-read, absent}

-- the text that is given is that of `zero_fields_of_group`
zeroing-text : {s : Str} {id place : ℕ} (a : GroupAt s id place) (w : Str) → Ran s id place Zeroing w
    → Flat (zeroing_request a.tree a.group) w
unfolding accessor_text
zeroing-text {s} {id} {place} a w x =
    flat (zeroing_request a.tree a.group) _ (zeroing-levels a.tree a.group) x.state.level w
    (rw a.is-group at
    (given-ok (accessor_text a.tree (a.node, a.field) Zeroing x.state.level) w
    (rw (a.is-admitted, a.is_found) at (ran_generated s id place Zeroing w x))))

pub zeroing_holds : ZeroingHolds
zeroing_holds s id place a w e r long =
    let t = zeroing-text a w e in
    let c = run_of s a.tree a.is-admitted a.group t.text t.is r (each-alike (HoldsOp r) t.alike long) in
    record {
      left = left c;
      runs = zeroing-alike t.alike r ∙ runs c;
      defaults = λ i place b k e is_reader is_fn u h.
          let g = getter-text b is_reader is_fn u h in
          let x = getter-given b.tree (bounds b).clean b.field.name is_reader is_fn k b.slot false g.text e g.is in
          getter-alike g.alike (left c)
          ∙ ap (λ (y : Str). run_getter y (left c)) x.text
          ∙ default-read c i place b k e (own_fits b k e (sym x.same_kind)) false x.typ x.one_line.is is_reader;
      absent = absent c;
      hasers = λ i place b e is_reader h is.
          haser-holds s _ place b is_reader h (left c) e is ∙ ap Some (has-absent (tag_at b) _ (left c) (absent c i place b e));
      lengths = lengths c;
      bits-same = λ b h. bits-same c b (each-alike (SparesBit b) t.alike h);
      pointers-same = λ j h. pointers-same c j (each-alike (SparesPointer j) t.alike h);
    }
