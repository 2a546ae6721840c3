-- The measures of the writers of types and brands, and what their loops keep. The levels that are left fall where a list or a
-- binding has a type; at one level a type writes a list or a brand, a brand its chain, a chain its nodes, a node its bindings.
-- The loop over bindings: whatever the bindings from here on make of what is written, all of them make of the start. The loop
-- over a chain: `Along` says what is known at each turn, and `Going` what of the buffer. Assumes nothing.
use Rattle.std.proofs.Common.{◌≡◌, ℕ, List, ◌+◌, ◌*◌, ◌-◌, ◌≤◌, length, drop}
use Rattle.std.specs.Prelude.{Result}
use Rattle.text.specs.Text.{WroteSome}
use Rattle.row.specs.Rows.{rows}
use Rattle.tree.specs.Tree.{Node, stop}
use Rattle.tree.specs.Reader.{times, On}
use Rattle.tree.specs.Read.{read_type, read_binding}
use Rattle.nodes.specs.Index.{Indexed, sheet_of}
use Rattle.terms.specs.declared.refusals.Refusal.{Refusal}
use Rattle.codegen_types.specs.TypeString.{bindings_of, all_of}
use Rattle.type_parts.specs.Parts.{Lists}
use Rattle.type_parts.specs.declared.Arguments.{Arguments}
use Rattle.type_string.proofs.ChainLaws.{Along, Going}
use Rattle.type_string.proofs.+do_branding_write_binding_write_binds_write_chain_write_list_write_own_write_type.Given as goal

abbrev pub decreases-do_branding : goal.decreases-do_branding
decreases-do_branding l = 8 * l.left + 5

abbrev pub decreases-write_binding : goal.decreases-write_binding
decreases-write_binding l = 8 * l.left + 1

abbrev pub decreases-write_binds : goal.decreases-write_binds
decreases-write_binds l = 8 * l.left + 2

abbrev pub decreases-write_chain : goal.decreases-write_chain
decreases-write_chain l = 8 * l.left + 4

abbrev pub decreases-write_list : goal.decreases-write_list
decreases-write_list l = 8 * l.left + 5

abbrev pub decreases-write_own : goal.decreases-write_own
decreases-write_own l = 8 * l.left + 3

abbrev pub decreases-write_type : goal.decreases-write_type
decreases-write_type l = 8 * l.left + 6

abbrev pub invariant-write_binds-loop-passed : goal.invariant-write_binds-loop-passed
invariant-write_binds-loop-passed l = record {
  some : WroteSome l.fn.buf l.fn.first.text l.buf l.p.text;
  rest : (ns : List Node) → Indexed l.source.bytes.now ns l.source.index.now → (l' : List ℕ) (r : Result Arguments Refusal)
      → On (times (read_binding (read_type l.left)) stop (l.count - l.passed) (rows (drop l.at l.source.bytes.now)))
      (λ bs. Lists (all_of (bindings_of bs (sheet_of l.source.root.now ns))) l.buf l.p l' r)
      → On (times (read_binding (read_type l.left)) stop l.count (rows (drop l.from l.source.bytes.now)))
      (λ bs. Lists (all_of (bindings_of bs (sheet_of l.source.root.now ns))) l.fn.buf l.fn.first l' r);
}

abbrev pub invariant-write_chain-loop-done : goal.invariant-write_chain-loop-done
invariant-write_chain-loop-done l = record {
  few : l.chain.count ≤ 16;
  params_size : length l.chain.params ≡ 16;
  counts_size : length l.chain.counts ≡ 16;
  ends_size : length l.chain.ends ≡ 16;
  going : Going l.fn.buf l.fn.first l.buf l.p l.met;
  along : Along l.inward l.source l.left l.fn.brand l.chain l.fn.buf l.fn.first l.buf l.p l.met l.done;
}
