-- `requests::answer_field_in` meets its contract: 15 where there is no field, else the answer for the field that was found. Where
-- a field stands does not rest on the root, so that what was found of any source of these bytes and this index was found of this.
-- Assumes nothing.
use Rattle.nodes.specs.Index.{sheet_of}
use Rattle.requests.specs.Requests.{field_at, accessor_text}
use Rattle.requests.proofs.FieldLaws.{nowhere, somewhere}
use Rattle.requests.proofs.SheetLaws.{source_of, source-is}
use Rattle.requests.proofs.answer_field_in.Goals as goal

pub returns-in_default-clause-indexed : goal.returns-in_default-clause-indexed
returns-in_default-clause-indexed c = λ nodes x.
    let source = c.args.source.now in
    let s = source.bytes.now in
    let index = source.index.now in
    nowhere c.args.buf.now c.args.t s
    (λ at. accessor_text (sheet_of source.root.now nodes) at c.args.accessor c.args.t.level) c.requires
    (field_at nodes c.args.id c.args.place)
    (rw c.in_default.is at (c.locate.ensures (source_of s index) (source-is s index) nodes x))

pub returns-clause-indexed : goal.returns-clause-indexed
returns-clause-indexed c = λ nodes x.
    let source = c.args.source.now in
    let s = source.bytes.now in
    let index = source.index.now in
    somewhere c.args.buf.now c.args.t s
    (λ at. accessor_text (sheet_of source.root.now nodes) at c.args.accessor c.args.t.level)
    (field_at nodes c.args.id c.args.place) c.in-Some.located
    (rw c.in-Some.is at (c.locate.ensures (source_of s index) (source-is s index) nodes x)) _ _
    (λ at e h. c.answer_found.ensures.indexed nodes x at e h)
