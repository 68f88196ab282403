-- Runs of calls on a record, each passed what the one before returned: their histories, and the draws that they hand out.
use Rattle.std.specs.Prelude.{◌≡◌, List, [], ◌∷◌, ℕ, zero, suc, ◌+◌, ◌*◌, ◌/◌, ◌%◌, ℤ}
use Rattle.streams.specs.declared.Stream.{Stream}
use Rattle.streams.specs.declared.Generator.{Generator}
use Rattle.streams.specs.Streams.{Call, if_accepted}
use Rattle.streams.specs.Streams.Call.{numbers, a_pair, a_skip, a_Block, a_look, an_ask, a_take, give_up}
use Rattle.streams.specs.Recurrence.{draw_at}
use Rattle.box_muller.specs.Sample.{samples_of}
use Rattle.noise.specs.Runs.{returned}

-- ---- The history of a run: its calls and the codes that they returned

pub record Entry : Type 0 where
  pub call : Call
  pub code : ℕ

unfoldable pub history_of : List Call → Generator → List Entry
history_of [] g = []
history_of (c ∷ l) g = record { call = c; code = (returned c g).code } ∷ history_of l (returned c g).next

-- The pairs that an accepted call hands out or skips, by the call alone: a block and a take of n samples n / 2.
unfoldable pub figure : Call → ℕ
figure numbers = 1
figure a_pair = 1
figure (a_skip n) = n
figure (a_Block n) = n / 2
figure (a_look n) = 0
figure (an_ask n) = 0
figure (a_take n) = n / 2
figure give_up = 0

-- "The pairs handed out plus those skipped, taken from the history of accepted calls" (document 02, Job 4).
unfoldable pub count_of : List Entry → ℕ
count_of [] = 0
count_of (e ∷ l) = if_accepted e.code (figure e.call) 0 + count_of l

-- ---- While a request is open

-- A call with that code leaves it open: any but a take or giving up that is accepted.
abbrev pub Keeps : Call → ℕ → Type 0
Keeps numbers code = Unit {0}
Keeps a_pair code = Unit {0}
Keeps (a_skip n) code = Unit {0}
Keeps (a_Block n) code = Unit {0}
Keeps (a_look n) code = Unit {0}
Keeps (an_ask n) code = Unit {0}
Keeps (a_take n) code = code ≡ 0 → ⊥
Keeps give_up code = code ≡ 0 → ⊥

abbrev pub AllKeep : List Entry → Type 0
AllKeep [] = Unit {0}
AllKeep (e ∷ l) = Keeps e.call e.code × AllKeep l

-- ---- The draws behind the samples

-- The numbers of the pair that draw t of both streams makes: "k is a × 65536 + floor(b / 65536)", "v is b mod 65536".
abbrev pub k_at : Stream → Stream → ℕ → ℕ
k_at a b t = draw_at a t * 65536 + draw_at b t / 65536

abbrev pub v_at : Stream → ℕ → ℕ
v_at b t = draw_at b t % 65536

-- The samples of draws m + 1 to m + n of both streams, first and second of each pair alternating.
unfoldable pub drawn_samples : (f n m : ℕ) → Stream → Stream → List ℤ
drawn_samples f zero m a b = []
drawn_samples f (suc n) m a b =
    (samples_of f (k_at a b (suc m)) (v_at b (suc m))).first
    ∷ (samples_of f (k_at a b (suc m)) (v_at b (suc m))).second
    ∷ drawn_samples f n (suc m) a b
