-- Calls made on words that a caller lends, one after the other, each as its contract says; and demand 3 of the words after them.
-- Assumes nothing.
use Rattle.std.specs.Prelude.{◌≡◌, List, [], ◌∷◌, ◌++◌, Result, Ok, ℕ}
use Rattle.network.specs.Network.{Net, fresh_of}
use Rattle.network.specs.Round.{round_of, full_round_of}
use Rattle.network.specs.Change.{change_of, grade_of}
use Rattle.network.specs.Route.{route_of}
use Rattle.network.specs.Writing.{Writes}
use Rattle.network.specs.Answered.{answered}
use Rattle.network.specs.declared.Fault.{Fault}
use Rattle.memory.specs.Layout.{view}
use Rattle.memory.specs.Answers.{Leaves, Starts}
use Rattle.records.specs.Numbers.{Bytes}
use Rattle.records.specs.Image.{image_of}
use Rattle.records.specs.Opening.{open_of}
use Rattle.opening.specs.Answers.{Opens}
use Rattle.settling.specs.Calls.{Call, change, grade, round, full_round, route, write_image_of, called, after, Supposed, rounds_heard, Promises}

-- the call was made on the words `entry`, answered the number k and left the words `exit`, as its contract says; a reading call leaves the
-- words, and `output` where `out` stood
pub data CallMade : Call → ℕ → List ℕ → List ℕ → Type 0 where
  by_change : {s r c k : ℕ} {entry exit : List ℕ} → Leaves (change_of (view entry) s r c) k entry exit → CallMade (change s r c) k entry exit
  by_grade : {s r g k : ℕ} {entry exit : List ℕ} → Leaves (grade_of (view entry) s r g) k entry exit → CallMade (grade s r g) k entry exit
  by_round : {k : ℕ} {ms entry exit : List ℕ} → Leaves (round_of (view entry) ms) k entry exit → CallMade (round ms) k entry exit
  by_full_round : {k : ℕ} {entry exit : List ℕ} → Leaves (full_round_of (view entry)) k entry exit → CallMade full_round k entry exit
  by_route : {y : ℕ} {entry out output : List ℕ} {r : Result ℕ Fault} → Writes (route_of (view entry) y out) r output → CallMade (route y out) (answered r) entry entry
  by_image : {entry out output : List ℕ} {r : Result ℕ Fault} → Writes (image_of (view entry) out) r output → CallMade (write_image_of out) (answered r) entry entry

-- calls made in order, with the numbers that they answered, each on the words that the call before it left; nothing else writes them meanwhile
pub data History : List ℕ → List Call → List ℕ → List ℕ → Type 0 where
  no_call : {xs : List ℕ} → History xs [] [] xs
  one_more : {c : Call} {k : ℕ} {cs : List Call} {ks xs ys zs : List ℕ} → CallMade c k xs ys → History ys cs ks zs → History xs (c ∷ cs) (k ∷ ks) zs

-- the numbers that a list of calls on x answers
unfoldable pub numbers : Net → List Call → List ℕ
numbers x [] = []
numbers x (c ∷ cs) = (called x c).number ∷ numbers (called x c).net cs

-- the words after a history, and the numbers answered, are those of the list of calls
pub record Follows (xs : List ℕ) (cs : List Call) (ks zs : List ℕ) : Type 0 where
  pub net : view zs ≡ after (view xs) cs
  pub answered : ks ≡ numbers (view xs) cs

-- of every history, on any words
abbrev pub HistoryFollows : Type 0
HistoryFollows = (xs : List ℕ) (cs : List Call) (ks zs : List ℕ) → History xs cs ks zs → Follows xs cs ks zs

-- words that an accepted `make_fresh` or `open_into` call left, as its contract says
pub data Begun (xs : List ℕ) : Type 0 where
  fresh_left : (n origin : ℕ) → Starts (fresh_of n origin) 0 xs → Begun xs
  open_left : (bs : List ℕ) (used : ℕ) → Bytes bs → Opens (open_of bs) (Ok used) xs → Begun xs

-- demand 3 of the words: for every history from such words, every W, and every cut of its calls into what comes before and the stretch, the
-- promises hold of the network that the last words give
abbrev pub WordsSettle : Type 0
WordsSettle =
    (xs : List ℕ) → Begun xs → (before stretch : List Call) (ks zs : List ℕ) → History xs (before ++ stretch) ks zs → (W : ℕ) →
    Supposed (view xs) before stretch W → Promises (view xs).nodes W (rounds_heard (view xs) before stretch) (view zs)
