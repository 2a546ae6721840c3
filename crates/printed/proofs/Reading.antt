-- How readings are put together. `Reads`: the reading of some rows gives this part of the tree and leaves those rows.
-- `Tells`: whatever part a reading gives, this holds of it and of the rows that are left. Assumes nothing.
use mathlib.Core.Path.{◌≡◌, refl, ap, ◌∙◌}
use mathlib.Core.Bool.{Bool, true, false}
use mathlib.Core.List.{◌∷◌}
use Prim.Native.Nat.{ℕ, zero, suc}
use Rattle.text.specs.Bytes.{Str, cond}
use Rattle.row.specs.Rows.{rows, joined}
use Rattle.row.specs.Line.{Fault, Content, line_at, text_at}
use Rattle.row.specs.Print.{print_line, Fits}
use Rattle.row.proofs.PrintLaws.{read-printed, text-printed, rows-printed}
use Rattle.tree.specs.Reader.{Rows, Reading, got, no, Reader, ◌then◌, times}

-- a line printed within its bounds is read as that line with its text
module _ (l : Content) (text : Str) (rs : Rows) (fits : Fits l text) where
  pub line-here : line_at (print_line l text ∷ rs) ≡ l
  unfolding line_at
  line-here = read-printed l text fits

  pub text-here : text_at (print_line l text ∷ rs) ≡ text
  unfolding text_at
  text-here = text-printed l text fits

-- the rows rs are lines printed within their bounds, in front of the rows rest
pub data Lined : Rows → Rows → Type 0 where
  no_line : {rs : Rows} → Lined rs rs
  a_line : (l : Content) (text : Str) {rs rest : Rows} → Fits l text → Lined rs rest → Lined (print_line l text ∷ rs) rest

lined_on : {rs mid rest : Rows} → Lined rs mid → Lined mid rest → Lined rs rest
lined_on no_line q = q
lined_on (a_line l text f r) q = a_line l text f (lined_on r q)

-- lines printed come back when their bytes are cut into rows, if the rows after them do
pub lined-back : {rs rest : Rows} → Lined rs rest → rows (joined rest) ≡ rest → rows (joined rs) ≡ rs
unfolding joined
lined-back no_line h = h
lined-back (a_line l text {rs = rs} f r) h =
    rows-printed l text (joined rs) f ∙ ap (λ (rs : Rows). print_line l text ∷ rs) (lined-back r h)

-- the reading g of the rows rs gives a and leaves the rows rest, and what is read are lines printed
pub record Reads {A : Type 0} (rs : Rows) (g : Reading A) (a : A) (rest : Rows) : Type 0 where
  pub gives : g ≡ got a rest
  pub lined : Lined rs rest

-- nothing is read
pub reads_none : {A : Type 0} {rs : Rows} {a : A} → Reads rs (got a rs) a rs
reads_none = record { gives = refl; lined = no_line }

-- a line in front
pub reads-line :
    {A : Type 0} (l : Content) (text : Str) {rs rest : Rows} {g whole : Reading A} {a : A} → Fits l text → whole ≡ g
    → Reads rs g a rest → Reads (print_line l text ∷ rs) whole a rest
reads-line l text f e r = record { gives = e ∙ r.gives; lined = a_line l text f r.lined }

-- two readings after each other, as the whole that they are read for
pub reads_both :
    {A B C : Type 0} {rs mid rest : Rows} {g : Reading A} {h : Reading B} {whole : Reading C} {a : A} {b : B} {c : C}
    → whole ≡ got c rest → Reads rs g a mid → Reads mid h b rest → Reads rs whole c rest
reads_both e r q = record { gives = e; lined = lined_on r.lined q.lined }

pub reads_then :
    {A B : Type 0} {rs mid rest : Rows} {g : Reading A} {a : A} {b : B} (k : A → Reader B) → Reads rs g a mid
    → Reads mid (k a mid) b rest → Reads rs (g then k) b rest
reads_then k r q = record { gives = rw r.gives q.gives; lined = lined_on r.lined q.lined }

pub reads-map :
    {A B : Type 0} (f : A → B) {rs rest : Rows} {g : Reading A} {a : A} → Reads rs g a rest
    → Reads rs (g then λ a. got (f a)) (f a) rest
reads-map f r = record { gives = rw r.gives; lined = r.lined }

pub reads_times :
    {A : Type 0} (one : Reader (A → A)) (none : A) (n : ℕ) {rs mid rest : Rows} {f : A → A} {a : A}
    → Reads rs (one rs) f mid → Reads mid (times one none n mid) a rest → Reads rs (times one none (suc n) rs) (f a) rest
unfolding times
reads_times one none n {f = f} r q = reads_then _ r (reads-map f q)

-- what holds of a part that a reading gives, and of the rows that are left; of a refusal nothing is told
pub data Tells {A : Type 0} (P : A → Rows → Type 0) : Reading A → Type 0 where
  told : {a : A} {rest : Rows} → P a rest → Tells P (got a rest)
  nothing : {k : Fault} {rest : Rows} → Tells P (no k rest)

pub tells_then :
    {A B : Type 0} {P : A → Rows → Type 0} {Q : B → Rows → Type 0} {g : Reading A} (k : A → Reader B) → Tells P g
    → ((a : A) (rest : Rows) → P a rest → Tells Q (k a rest)) → Tells Q (g then k)
tells_then k (told {a = a} {rest = rest} p) f = f a rest p
tells_then k nothing f = nothing

pub tells_map :
    {A B : Type 0} {P : A → Rows → Type 0} {Q : B → Rows → Type 0} {g : Reading A} (m : A → B) → Tells P g
    → ((a : A) (rest : Rows) → P a rest → Q (m a) rest) → Tells Q (g then λ a. got (m a))
tells_map m (told {a = a} {rest = rest} p) f = told (f a rest p)
tells_map m nothing f = nothing

pub tells_cond :
    {A : Type 0} {P : A → Rows → Type 0} (b : Bool) (f g : Reader A) (rs : Rows) → (b ≡ true → Tells P (f rs))
    → (b ≡ false → Tells P (g rs)) → Tells P (cond b f g rs)
tells_cond true f g rs h k = h refl
tells_cond false f g rs h k = k refl

-- a reader n times: what holds after none, and after one more
module _
    {A : Type 0} {one : Reader (A → A)} {none : A} (P : ℕ → Rows → A → Rows → Type 0) (base : (rs : Rows) → P 0 rs none rs)
    (step : (rs : Rows)
    → Tells (λ f mid. (n : ℕ) (a : A) (rest : Rows) → P n mid a rest → P (suc n) rs (f a) rest) (one rs)) where
  pub tells_times : (n : ℕ) (rs : Rows) → Tells (P n rs) (times one none n rs)
  unfolding times
  tells_times zero rs = told (base rs)
  tells_times (suc n) rs =
      let more = tells_times n in tells_then _ (step rs) (λ f mid h. tells_map f (more mid) (λ a rest p. h n a rest p))
