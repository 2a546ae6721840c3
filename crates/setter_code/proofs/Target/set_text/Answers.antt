-- `setter_code::Target::set_text` meets its contract: its parts, one after the other. Assumes nothing.
use Prim.Native.Nat.{◌+◌}
use Rattle.text.specs.Bytes.{ascii}
use Rattle.text.specs.Lines.{margin, broken}
use Rattle.text.proofs.Laws.{◌⋄◌, flat, reworded}
use Rattle.setter_code.proofs.Laws.{text-line, begun}
use Rattle.setter_code.proofs.Target.set_text.Goals as goal

pub returns : goal.returns
unfolding broken
returns c =
    reworded (λ n. text-line _ (ascii "impl ") _ (ascii "::traits::SetterInput<") (ascii "::text::Owned") (ascii ">")
    (ascii ")  {\n") _ (margin (n + 1)) _ (ascii ".unwrap()") (broken (ascii "\n}\n") n))
    (begun c.args.self.now (ascii "::text::Owned>)  {\n") (c.set_open-t.ensures ⋄ flat c.bytes-t.ensures
    ⋄ flat c.bytes-t-2.ensures ⋄ flat c.bytes-t-3.ensures ⋄ flat c.bytes-t-4.ensures) c.start-t.ensures
    ⋄ flat c.set_pointer-t.ensures ⋄ c.broken.ensures)
