-- The theorems of specs/Theorems.antt.
use mathlib.Core.Path.{◌≡◌}
use mathlib.Core.List.{List}
use Rattle.streams.specs.declared.Stream.{Stream}
use Rattle.streams.specs.declared.Generator.{Generator}
use Rattle.streams.specs.Streams.{Call, fresh, asked_code, count_code}
use Rattle.streams.specs.Recurrence.{seed_from, InRange, Sound}
use Rattle.streams.proofs.Theorems.{seeded, stream_history}
use Rattle.noise.specs.Noise.{take_of}
use Rattle.histories.specs.Theorems.{OfRefusals, OfRequests, NextDraws, OfRuns}
use Rattle.histories.proofs.Refusals.{decides, meetings_meet}
use Rattle.histories.proofs.Calls.{skip_none, look_code}
use Rattle.histories.proofs.Requests.{open_run, ask_run_take, ask_run_give_up, asked_seeded}
use Rattle.histories.proofs.Histories.{fit_for_ever, told_from_seeding, told_count, taken_half}
use Rattle.histories.proofs.Draws.{numbers_drawn, pair_drawn, block_drawn, look_drawn, take_drawn}

pub of_refusals : OfRefusals
of_refusals = record {
  under_cause = λ r c g. (decides c g).under_cause r;
  accepted = λ c g. (decides c g).accepted;
  no_other = λ c g. (decides c g).no_other;
  meet = meetings_meet;
  look = look_code;
  skip_none = skip_none;
}

pub of_requests : OfRequests
unfolding asked_code count_code
of_requests = record {
  open_run = open_run;
  ask_run_take = ask_run_take;
  ask_run_give_up = ask_run_give_up;
  most_asked_lem = λ a b ra rb h. (asked_seeded a b ra rb h _, asked_seeded a b ra rb h _);
}

next_draws : (g : Generator) → Sound g → (l : List Call) → NextDraws g g.a g.b l
next_draws g h l = record {
  numbers = numbers_drawn l g h;
  pair = λ f. pair_drawn f l g h;
  block = λ f old. block_drawn f l g old h;
  look = λ f old. look_drawn f l g old h;
  take = λ f old. take_drawn f l g old h;
}

next_from_seeding : (a b : Stream) → InRange a → InRange b → (seed_from a b).code ≡ 0
    → (l : List Call) → NextDraws (seed_from a b).next a b l
next_from_seeding a b ra rb h l =
    let (is-fresh, is-sound) = seeded a b ra rb h in
    rw is-fresh (next_draws (fresh a b) is-sound l)

pub of_runs : OfRuns
unfolding take_of
of_runs = record {
  fit_for_ever = fit_for_ever;
  count_from_seeding = told_from_seeding;
  count = told_count;
  taken = taken_half;
  draws_from_seeding = next_from_seeding;
  draws = next_draws;
  recurrence = stream_history;
}
