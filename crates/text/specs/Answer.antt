-- What a request answers once its text is known, over a buffer l and a fill count (document 01, "Refusals from the state").
-- Assumes nothing.
use Rattle.std.specs.Prelude.{◌≡◌, ◌++◌, ℕ, ◌+◌, ltb, length, take, drop}
use Rattle.text.specs.Bytes.{Str, cond}

-- the fill count past the text; or the papers' number of a refusal, its line and its column, 0 where it names none
pub data Answer : Type 0 where
  done : ℕ → Answer
  refused : ℕ → ℕ → ℕ → Answer

-- s in l from place fill on, and every other byte as it was
unfoldable pub placed : Str → ℕ → Str → Str
placed l fill s = take fill l ++ s ++ drop (fill + length s) l

-- 21, a fill count above the buffer's length; 22, a text that is longer than the free part
unfoldable pub answer_of : Str → ℕ → Str → Answer
answer_of l fill s =
    cond (ltb (length l) fill) (refused 21 0 0)
    (cond (ltb (length l) (fill + length s)) (refused 22 0 0)
    (done (fill + length s)))

-- the buffer afterwards: a refusal changes no byte
unfoldable pub buffer_of : Str → ℕ → Str → Str
buffer_of l fill s =
    cond (ltb (length l) fill) l
    (cond (ltb (length l) (fill + length s)) l
    (placed l fill s))

-- the request whose text is s leaves l' and answers r
pub record TextAnswered (l : Str) (fill : ℕ) (s : Str) (l' : Str) (r : Answer) : Type 0 where
  pub answer : r ≡ answer_of l fill s
  pub buffer : l' ≡ buffer_of l fill s
