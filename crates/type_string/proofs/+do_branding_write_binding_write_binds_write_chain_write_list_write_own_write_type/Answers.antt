-- `do_branding` and the writers of types, seven functions that call each other, meet their contracts: each return is one law of
-- Laws.antt or ChainLaws.antt. In any case the texts of the calls, one after the other, are some text, and where one is refused
-- nothing before it changed. Assumes nothing.
use mathlib.Core.Path.{◌≡◌, refl, ap, ◌∙◌}
use native.Mathlib.Omega.{arith}
use Prim.Native.Nat.{◌+◌, ◌-◌}
use Rattle.std.specs.Prelude.{Ok, Err}
use Rattle.std.proofs.lemmas.Result.{err_from_is_err_and}
use Rattle.text.specs.Bytes.{Str}
use Rattle.text.proofs.Laws.{some-text, no_text, ◌⨟◌}
use Rattle.nodes.specs.Index.{sheet_of}
use Rattle.terms.specs.Kinds.{number_of}
use Rattle.terms.specs.declared.kinds.Kind.TheVariants as kind
use Rattle.terms.specs.declared.refusals.Refusal.TheVariants.{ListOfAnyPointer}
use Rattle.terms.proofs.KindLaws.{number-own, last-past, below-last, plain-below, branded-between}
use Rattle.codegen_types.specs.Out.{Out}
use Rattle.codegen_types.specs.TypeString.{type_string}
use Rattle.codegen_types.specs.Written.{Writes}
use Rattle.codegen_types.specs.declared.Leaf.TheVariants.{Owned}
use Rattle.codegen_types.proofs.WrittenLaws.{whole, refused-text, kept-behind}
use Rattle.types.proofs.TypeLaws as read-law
use Rattle.type_string.specs.Told.{scopes_at}
use Rattle.type_string.proofs.Laws as law
use Rattle.type_string.proofs.ChainLaws as chain-law
use Rattle.type_string.proofs.+do_branding_write_binding_write_binds_write_chain_write_list_write_own_write_type.Goals as goal

-- ---- do_branding

pub do_branding-returns-in_err-t-clause-text : goal.do_branding-returns-in_err-t-clause-text
do_branding-returns-in_err-t-clause-text t c =
    let a = c.args in
    let p = err_from_is_err_and c.from_residual.result c.from_residual.ensures.1 in
    rw (p.1, p.2) (λ ns x. law.brand-none (sheet_of a.source.now.root.now ns) a.leaf a.brand.id
    (scopes_at a.source.now a.left a.brand) _ _ _ _
    (c.in_err-t.ensures.text a.source.now.root.now ns x))

pub do_branding-returns-in_err-q-clause-text : goal.do_branding-returns-in_err-q-clause-text
do_branding-returns-in_err-q-clause-text t c =
    let a = c.args in
    let p = err_from_is_err_and c.from_residual-in_err-q.result c.from_residual-in_err-q.ensures.1 in
    rw (p.1, p.2) (λ ns x. law.brand-refused (sheet_of a.source.now.root.now ns) a.leaf a.brand.id
    (scopes_at a.source.now a.left a.brand) _ _ _ _
    (c.in_ok-t.ensures.text a.source.now.root.now ns x) _ _ _ _ (c.in_err-q.ensures.text ns x))

pub do_branding-returns-in_err-q-clause-within : goal.do_branding-returns-in_err-q-clause-within
do_branding-returns-in_err-q-clause-within t c =
    let p = err_from_is_err_and c.from_residual-in_err-q.result c.from_residual-in_err-q.ensures.1 in
    rw p.1 (kept-behind (c.in_ok-t.ensures.within ⨟ some-text c.opening-p.ensures.text) c.in_err-q.ensures.within)

pub do_branding-returns-clause-text : goal.do_branding-returns-clause-text
do_branding-returns-clause-text t c =
    let a = c.args in
    λ ns x. law.brand-on (sheet_of a.source.now.root.now ns) a.leaf a.brand.id
    (scopes_at a.source.now a.left a.brand) _ _ _ _
    (c.in_ok-t.ensures.text a.source.now.root.now ns x) _ _ _ _ _ _ c.opening-p.ensures
    c.close.ensures (c.in_ok-q.ensures.text ns x)

pub do_branding-returns-clause-within : goal.do_branding-returns-clause-within
do_branding-returns-clause-within t c =
    c.in_ok-t.ensures.within ⨟ some-text c.opening-p.ensures.text ⨟ c.in_ok-q.ensures.within ⨟ some-text c.close.ensures

-- ---- write_binding

pub write_binding-returns-in-Ok-Unbound-clause-text : goal.write_binding-returns-in-Ok-Unbound-clause-text
write_binding-returns-in-Ok-Unbound-clause-text t c =
    let w = c.in-Ok-Unbound in
    let f = rw w.is at w.field-0-is in
    λ ns x. law.bind-unbound (sheet_of c.args.source.now.root.now ns) _ _ _ c.next-g.ensures.line_value _ _ _ _
    (w.is ∙ ap Ok f) c.any_owned.ensures

pub write_binding-returns-then-left-eq0-clause-text : goal.write_binding-returns-then-left-eq0-clause-text
write_binding-returns-then-left-eq0-clause-text t c =
    λ ns x. law.bind-typed (sheet_of c.args.source.now.root.now ns) _ _ _ c.next-g.ensures.line_value _ _ _ _
    (λ e. grind arith) (read-law.type-zero _ _ _ c.if-left-eq0.true)

pub write_binding-returns-then-left-eq0-clause-within : goal.write_binding-returns-then-left-eq0-clause-within
write_binding-returns-then-left-eq0-clause-within t c = no_text

pub write_binding-returns-else-left-eq0-clause-text : goal.write_binding-returns-else-left-eq0-clause-text
write_binding-returns-else-left-eq0-clause-text t c =
    let a = c.args in
    λ ns x. law.bind-typed (sheet_of a.source.now.root.now ns) _ _ _ c.next-g.ensures.line_value _ _ _ _
    (λ e. grind arith) (read-law.type_row_lem a.source.now.bytes.now a.at c.as_type-row.result _
    (λ ty. Writes (type_string ty (sheet_of a.source.now.root.now ns) Owned) a.buf.now a.t c.write_type.new.buf
    c.write_type.result)
    (read-law.row_at a.source.now.bytes.now a.at c.next-g.result.next _ c.as_type-row.result c.next-g.ensures.line_value
    c.next-g.ensures.s_value c.as_type-row.ensures)
    c.if-left-eq0.false (c.write_type.ensures.text ns x))

-- ---- write_binds

pub write_binds-loop-passed-init : goal.write_binds-loop-passed-init
write_binds-loop-passed-init t c =
    let z : c.args.count - 0 ≡ c.args.count = omega arith in
    record { some = no_text; rest = λ ns x l' r h. rw z at h }

pub write_binds-returns-in_err-t-clause-text : goal.write_binds-returns-in_err-t-clause-text
write_binds-returns-in_err-t-clause-text t c =
    let a = c.args in
    let p = err_from_is_err_and c.from_residual.result c.from_residual.ensures.1 in
    rw (p.1, p.2) (λ ns x. c.loop-passed.invariant.rest ns x _ _ (law.binds-stop (sheet_of a.source.now.root.now ns) a.left
    (a.count - c.loop-passed.passed) _ _ (omega arith) (λ _. refl) _ _ _ _ _ _ (c.in_err-t.ensures.text ns x)))

pub write_binds-returns-in_err-t-clause-within : goal.write_binds-returns-in_err-t-clause-within
write_binds-returns-in_err-t-clause-within t c =
    let p = err_from_is_err_and c.from_residual.result c.from_residual.ensures.1 in
    rw p.1 (kept-behind (c.loop-passed.invariant.some ⨟ some-text c.byte-t.ensures) c.in_err-t.ensures.within)

pub write_binds-returns-then-passed-count-clause-text : goal.write_binds-returns-then-passed-count-clause-text
write_binds-returns-then-passed-count-clause-text t c =
    let a = c.args in
    let n = a.count - c.loop-passed.passed in
    λ ns x. c.loop-passed.invariant.rest ns x _ _ (law.binds-on (sheet_of a.source.now.root.now ns) a.left n _ _ (omega arith)
    (λ _. refl) _ _ _ _ _ _ _ _ c.byte-t.ensures (c.in_ok-t.ensures.text ns x)
    (law.binds-none (sheet_of a.source.now.root.now ns) a.left (n - 1) _ _ _ (omega (arith, c.if-passed-count.true))))

pub write_binds-returns-then-passed-count-clause-within : goal.write_binds-returns-then-passed-count-clause-within
write_binds-returns-then-passed-count-clause-within t c =
    c.loop-passed.invariant.some ⨟ some-text c.byte-t.ensures ⨟ c.in_ok-t.ensures.within

pub write_binds-loop-passed-preserved : goal.write_binds-loop-passed-preserved
write_binds-loop-passed-preserved t c =
    let a = c.args in
    let n = a.count - c.loop-passed.passed in
    let z : a.count - (c.loop-passed.passed + 1) ≡ n - 1 = omega arith in record {
      some = c.loop-passed.invariant.some ⨟ some-text c.byte-t.ensures ⨟ c.in_ok-t.ensures.within;
      rest = λ ns x l' r h. c.loop-passed.invariant.rest ns x l' r (law.binds-on (sheet_of a.source.now.root.now ns) a.left n _ _
          (omega arith) c.past-at.ensures.rows _ _ _ _ _ _ l' r c.byte-t.ensures (c.in_ok-t.ensures.text ns x) (rw z at h));
    }

pub write_binds-returns-clause-text : goal.write_binds-returns-clause-text
write_binds-returns-clause-text t c =
    λ ns x. c.loop-passed.invariant.rest ns x _ _ (law.binds-none (sheet_of c.args.source.now.root.now ns) c.args.left
    (c.args.count - c.loop-passed.passed) _ _ _ (omega arith))

-- ---- write_chain

pub write_chain-shared_ref_as_front-scopes : goal.write_chain-shared_ref_as_front-scopes
write_chain-shared_ref_as_front-scopes t c = (c.chain-chain.ensures c.args.source.now.bytes.now).few

pub write_chain-loop-done-init : goal.write_chain-loop-done-init
write_chain-loop-done-init t c =
    let h = c.chain-chain.ensures c.args.source.now.bytes.now in record {
      few = h.few;
      params_size = h.params-size;
      counts_size = h.counts_size;
      ends_size = h.ends_size;
      going = chain-law.going-start;
      along = chain-law.along-start _ _ _ _ _ h c.scopes-scopes.ensures _ _ _ (λ e. grind arith);
    }

pub write_chain-returns-then-inward-clause-text : goal.write_chain-returns-then-inward-clause-text
write_chain-returns-then-inward-clause-text t c =
    chain-law.along-stop _ _ _ _ _ (c.chain-chain.ensures c.args.source.now.bytes.now) c.scopes-scopes.ensures _ _ _ _ _ _ _
    c.loop-done-test.true _ _ c.in-Err.ensures.text _ c.turn-k.ensures.is c.if-inward.true c.loop-done.invariant.along
    c.in-Err.ensures.within

pub write_chain-loop-done-preserved : goal.write_chain-loop-done-preserved
write_chain-loop-done-preserved t c =
    let i = c.loop-done.invariant in
    let h = c.chain-chain.ensures c.args.source.now.bytes.now in
    elim c.match-write_own.branch [
      | goal.write_chain-in-Ok w ↦ rw (w.p-is, w.met-is) (record {
        few = i.few;
        params_size = i.params_size;
        counts_size = i.counts_size;
        ends_size = i.ends_size;
        going = chain-law.going-on i.going w.in-Ok.ensures.within;
        along = chain-law.along-next _ _ _ _ _ h c.scopes-scopes.ensures _ _ _ _ _ _ _ c.loop-done-test.true _ _
            c.turn-k.ensures.is _ w.in-Ok.ensures.text w.in-Ok.ensures.within i.along;
      })
      | goal.write_chain-in-Err+else-inward w ↦ rw (w.p-is, w.met-is) (record {
        few = i.few;
        params_size = i.params_size;
        counts_size = i.counts_size;
        ends_size = i.ends_size;
        going = chain-law.going-refused i.going w.in-Err.ensures.within;
        along = chain-law.along-refused _ _ _ _ _ h c.scopes-scopes.ensures _ _ _ _ c.loop-done.met _ _ c.loop-done-test.true _ _
            w.in-Err.ensures.text _ c.turn-k.ensures.is w.if-inward.false;
      })
    ]

pub write_chain-returns-in-Some-clause-text : goal.write_chain-returns-in-Some-clause-text
write_chain-returns-in-Some-clause-text t c =
    rw c.in-Some.is at (chain-law.along-end _ _ _ _ _ (c.chain-chain.ensures c.args.source.now.bytes.now)
    c.scopes-scopes.ensures _ _ _ _ _ _ _ c.loop-done.invariant.along c.loop-done-test.false)

pub write_chain-returns-in-Some-clause-within : goal.write_chain-returns-in-Some-clause-within
write_chain-returns-in-Some-clause-within t c = rw c.in-Some.is at (chain-law.going-end c.loop-done.invariant.going)

pub write_chain-returns-in-None-clause-text : goal.write_chain-returns-in-None-clause-text
write_chain-returns-in-None-clause-text t c =
    rw c.in-None.is at (chain-law.along-end _ _ _ _ _ (c.chain-chain.ensures c.args.source.now.bytes.now)
    c.scopes-scopes.ensures _ _ _ _ _ _ _ c.loop-done.invariant.along c.loop-done-test.false)

pub write_chain-returns-in-None-clause-within : goal.write_chain-returns-in-None-clause-within
write_chain-returns-in-None-clause-within t c = rw c.in-None.is at (chain-law.going-end c.loop-done.invariant.going)

-- ---- write_list

pub write_list-returns-then-left-eq0-clause-text : goal.write_list-returns-then-left-eq0-clause-text
write_list-returns-then-left-eq0-clause-text t c = λ ns x. read-law.type-zero _ _ _ c.if-left-eq0.true

pub write_list-returns-then-left-eq0-clause-within : goal.write_list-returns-then-left-eq0-clause-within
write_list-returns-then-left-eq0-clause-within t c = no_text

pub write_list-returns-in_err-t-in_default-clause-text : goal.write_list-returns-in_err-t-in_default-clause-text
write_list-returns-in_err-t-in_default-clause-text t c =
    let p = err_from_is_err_and c.from_residual.result c.from_residual.ensures.1 in
    let d = c.in_default in
    let k = c.type_row-row.result.kind in
    rw (p.1, p.2) (λ ns x. read-law.type_row_lem c.args.source.now.bytes.now _ _ _ _ c.type_row-row.ensures c.if-left-eq0.false
    (law.list-refused (sheet_of c.args.source.now.root.now ns) c.args.leaf _ _ _ _ _ _ _ (number-own k kind.Text d.not-Text)
    (number-own k kind.Data d.not-Data) (below-last k d.not-AnyPointer d.not-Unnamed) c.element_leaf-element.ensures _ _ _ _ _ _
    (c.in_err-t-in_default.ensures.text ns x)))

pub write_list-returns-in_err-t-in_default-clause-within : goal.write_list-returns-in_err-t-in_default-clause-within
write_list-returns-in_err-t-in_default-clause-within t c =
    let p = err_from_is_err_and c.from_residual.result c.from_residual.ensures.1 in
    rw p.1 (kept-behind (some-text c.list_head-t.ensures) c.in_err-t-in_default.ensures.within)

pub write_list-returns-in-Text-clause-text : goal.write_list-returns-in-Text-clause-text
write_list-returns-in-Text-clause-text t c =
    λ ns x. read-law.type_row_lem c.args.source.now.bytes.now _ _ _ _ c.type_row-row.ensures c.if-left-eq0.false
    (law.list-text (sheet_of c.args.source.now.root.now ns) c.args.leaf _ _ _ _ _ _ (ap number_of c.in-Text.is)
    (whole c.displayed.ensures))

pub write_list-returns-in-Data-clause-text : goal.write_list-returns-in-Data-clause-text
write_list-returns-in-Data-clause-text t c =
    λ ns x. read-law.type_row_lem c.args.source.now.bytes.now _ _ _ _ c.type_row-row.ensures c.if-left-eq0.false
    (law.list-data (sheet_of c.args.source.now.root.now ns) c.args.leaf _ _ _ _ _ _ (ap number_of c.in-Data.is)
    (whole c.displayed-in-Data.ensures))

pub write_list-returns-in_ok-t-in_default-clause-text : goal.write_list-returns-in_ok-t-in_default-clause-text
write_list-returns-in_ok-t-in_default-clause-text t c =
    let d = c.in_default in
    let k = c.type_row-row.result.kind in
    λ ns x. read-law.type_row_lem c.args.source.now.bytes.now _ _ _ _ c.type_row-row.ensures c.if-left-eq0.false
    (law.list-inner (sheet_of c.args.source.now.root.now ns) c.args.leaf _ _ _ _ _ _ _ (number-own k kind.Text d.not-Text)
    (number-own k kind.Data d.not-Data) (below-last k d.not-AnyPointer d.not-Unnamed) c.element_leaf-element.ensures
    _ _ _ _ _ _ _ _ c.list_head-t.ensures c.byte.ensures (c.in_ok-t-in_default.ensures.text ns x))

pub write_list-returns-in_ok-t-in_default-clause-within : goal.write_list-returns-in_ok-t-in_default-clause-within
write_list-returns-in_ok-t-in_default-clause-within t c =
    some-text c.list_head-t.ensures ⨟ c.in_ok-t-in_default.ensures.within ⨟ some-text c.byte.ensures

pub write_list-returns-in-AnyPointer-clause-text : goal.write_list-returns-in-AnyPointer-clause-text
write_list-returns-in-AnyPointer-clause-text t c =
    λ ns x. read-law.type_row_lem c.args.source.now.bytes.now _ _ _ _ c.type_row-row.ensures c.if-left-eq0.false
    (read-law.list_of_any (sheet_of c.args.source.now.root.now ns) c.args.leaf _ _ _ _ _ _
    (λ (o : Out Str). Writes o c.args.buf.now c.args.t c.args.buf.now (Err ListOfAnyPointer))
    (last-past _ c.in-AnyPointer.is) (refused-text refl))

-- ---- write_own

pub write_own-returns-in_default-clause-text : goal.write_own-returns-in_default-clause-text
write_own-returns-in_default-clause-text t c =
    λ ns x o h at. law.own_other c.args.left (sheet_of c.args.source.now.root.now ns) _ _ _ at.names _ _ _ o h _
    c.next-g.ensures.line_value (λ i n e. grind arith) _ c.unbound.ensures

pub write_own-returns-in_default-bindings-clause-text : goal.write_own-returns-in_default-bindings-clause-text
write_own-returns-in_default-bindings-clause-text t c =
    let w = c.in-Ok-Scope in
    let f = rw w.is at w.field-0-is in
    λ ns x o h at. law.own-inherit c.args.left (sheet_of c.args.source.now.root.now ns) _ _ _ at.names _ _ _ o h _
    c.next-g.ensures.line_value _ _ (w.is ∙ ap Ok f) c.in_default-bindings.is _ (c.inherited.ensures.text at)

pub write_own-returns-then-count-own-clause-text : goal.write_own-returns-then-count-own-clause-text
write_own-returns-then-count-own-clause-text t c =
    let w = c.in-Ok-Scope in
    let f = rw w.is at w.field-0-is in
    let g = c.next-g.ensures in
    λ ns x o h at. law.own-8 c.args.left (sheet_of c.args.source.now.root.now ns) _ _ _ at.names _ _ _ o h _ g.line_value
    _ _ (w.is ∙ ap Ok f) _ g.s_value _ c.in-Some.is c.if-count-own.true

pub write_own-returns-clause-text : goal.write_own-returns-clause-text
write_own-returns-clause-text t c =
    let w = c.in-Ok-Scope in
    let f = rw w.is at w.field-0-is in
    let g = c.next-g.ensures in
    λ ns x o h at. law.own-binds c.args.left (sheet_of c.args.source.now.root.now ns) _ _ _ at.names _ _ _ o h _ g.line_value
    _ _ (w.is ∙ ap Ok f) _ g.s_value _ c.in-Some.is c.if-count-own.false _ (c.write_binds.ensures.text ns x)

-- ---- write_type

pub write_type-returns-then-row-eq0-clause-text : goal.write_type-returns-then-row-eq0-clause-text
unfolding type_string
write_type-returns-then-row-eq0-clause-text t c =
    λ ns x. read-law.type-any (sheet_of c.args.source.now.root.now ns) c.args.leaf _ _ _ _ _ _
    (λ (o : Out Str). Writes o c.args.buf.now c.args.t c.displayed.new.buf (Ok c.displayed.result))
    (last-past _ c.in-AnyPointer.is) c.if-row-eq0.true (whole c.displayed.ensures)

pub write_type-returns-in-List-clause-text : goal.write_type-returns-in-List-clause-text
write_type-returns-in-List-clause-text t c =
    λ ns x. read-law.type-list _ _ _ _ _ _ (λ ty. Writes (type_string ty (sheet_of c.args.source.now.root.now ns) c.args.leaf)
    c.args.buf.now c.args.t c.write_list.new.buf c.write_list.result) (ap number_of c.in-List.is)
    (c.write_list.ensures.text ns x)

pub write_type-returns-in-Enum-clause-text : goal.write_type-returns-in-Enum-clause-text
write_type-returns-in-Enum-clause-text t c =
    λ ns x. read-law.type-enum (sheet_of c.args.source.now.root.now ns) c.args.leaf _ _ _ _ _ _
    (λ (o : Out Str). Writes o c.args.buf.now c.args.t c.qualified_module.new.buf c.qualified_module.result)
    (ap number_of c.in-Enum.is)
    (c.qualified_module.ensures.text c.args.source.now.root.now ns x)

pub write_type-returns-in_default-clause-text : goal.write_type-returns-in_default-clause-text
unfolding type_string
write_type-returns-in_default-clause-text t c =
    let d = c.in_default in
    λ ns x. read-law.type-plain _ _ _ _ _ _ (λ ty. Writes (type_string ty (sheet_of c.args.source.now.root.now ns) c.args.leaf)
    c.args.buf.now c.args.t c.plain.new.buf (Ok c.plain.result))
    (plain-below c.args.row.kind d.not-List d.not-Enum d.not-Struct d.not-Interface d.not-AnyPointer d.not-Unnamed)
    (whole c.plain.ensures)

pub write_type-returns-in-Struct-clause-text : goal.write_type-returns-in-Struct-clause-text
write_type-returns-in-Struct-clause-text t c =
    let k = branded-between c.args.row.kind c.in-Struct.is in
    λ ns x. read-law.type-branded (sheet_of c.args.source.now.root.now ns) c.args.leaf _ _ _ _ _ _
    (λ (o : Out Str). Writes o c.args.buf.now c.args.t c.do_branding.new.buf c.do_branding.result) (omega arith)
    (λ e. omega arith) (λ e. omega arith) (omega arith) (c.do_branding.ensures.text ns x)

pub write_type-returns-else-row-eq0-clause-text : goal.write_type-returns-else-row-eq0-clause-text
write_type-returns-else-row-eq0-clause-text t c =
    λ ns x. read-law.type-parameter (sheet_of c.args.source.now.root.now ns) c.args.leaf _ _ _ _ _ _
    (λ (o : Out Str). Writes o c.args.buf.now c.args.t c.parameter.new.buf c.parameter.result)
    (last-past _ c.in-AnyPointer.is) c.if-row-eq0.false (c.parameter.ensures.text ns x)
