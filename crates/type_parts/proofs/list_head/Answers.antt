-- `type_parts::list_head` meets its contract. Assumes nothing.
use Rattle.codegen_types.specs.TypeString.{list_module}
use Rattle.codegen_types.specs.Leaf.{bare_name, lifetime_comma}
use Rattle.terms.specs.Kinds.{number_of}
use Rattle.text.specs.Bytes.{ascii}
use Rattle.type_parts.proofs.Laws as law
use Rattle.text.proofs.Laws.{◌⨾◌}
use Rattle.type_parts.proofs.list_head.Goals as goal

pub returns : goal.returns
returns c =
    law.three_threes c.args.root.now (ascii "::") (list_module (number_of c.args.kind)) (ascii "::")
    (bare_name c.args.leaf) (ascii "<") (lifetime_comma c.args.leaf)
    (c.bytes-t.ensures ⨾ c.list_module-t.ensures ⨾ c.list_leaf.ensures)
