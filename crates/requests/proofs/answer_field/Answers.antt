-- `requests::answer_field` meets its contract: 15 where there is no field, else the answer for the field that was found. Assumes
-- nothing.
use Rattle.row.specs.Line.{text_at}
use Rattle.row.specs.Rows.{rows}
use Rattle.nodes.specs.Index.{sheet_of}
use Rattle.requests.specs.Requests.{field_at, accessor_text}
use Rattle.requests.proofs.FieldLaws.{nowhere, somewhere}
use Rattle.requests.proofs.answer_field.Goals as goal

pub returns-in_default-clause-indexed : goal.returns-in_default-clause-indexed
returns-in_default-clause-indexed c = λ x is nodes d.
    nowhere c.args.buf.now c.args.t x.bytes.now
    (λ at. accessor_text (sheet_of x.root.now nodes) at c.args.accessor c.args.t.level) c.requires
    (field_at nodes c.args.id c.args.place) (rw c.in_default.is at (c.locate.ensures x is nodes d))

pub returns-clause-indexed : goal.returns-clause-indexed
returns-clause-indexed c = λ x is nodes d.
    let s = c.args.s.now in
    let made = c.new-source.ensures in
    let found = rw (made.root-is, made.bytes-are, made.index-is) at c.answer_found.ensures.indexed in
    let there = rw c.in-Some.is at (c.locate.ensures x is nodes d) in
    rw is.root-is
    (somewhere c.args.buf.now c.args.t s
    (λ at. accessor_text (sheet_of (text_at (rows s)) nodes) at c.args.accessor c.args.t.level)
    (field_at nodes c.args.id c.args.place) c.in-Some.located (rw is.bytes-are at there) _ _
    (λ at e h. found nodes (rw (is.bytes-are, is.index-is) at d) at e h))
