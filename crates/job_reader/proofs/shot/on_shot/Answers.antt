-- `job_reader::shot::on_shot` meets its contract.
use Rattle.std.proofs.Common.{arith, Bool, cond, ap, ◌∙◌}
use Rattle.job_lines.specs.Links.{follows, station_code}
use Rattle.job_reader.specs.Loop.{station_after, link_code, kept_on}
use Rattle.job_reader.specs.Private.{first_unlinked}
use Rattle.job_reader.proofs.Taking.{shot_placed}
use Rattle.job_reader.proofs.shot.on_shot.Goals as goal

pub overflow_sub-number : goal.overflow_sub-number
overflow_sub-number c = omega (arith, shot_placed _ _ _ _ _ c.requires.0)

pub overflow_cast-kept : goal.overflow_cast-kept
overflow_cast-kept c = omega (arith, shot_placed _ _ _ _ _ c.requires.0)

pub overflow_cast-kept-2 : goal.overflow_cast-kept-2
overflow_cast-kept-2 c = omega (arith, shot_placed _ _ _ _ _ c.requires.0)

pub returns : goal.returns
unfolding station_after link_code station_code kept_on
returns c =
    let linked = c.follows-linked.ensures ∙ ap (follows _) c.part.ensures in
    record {
      accepted = c.requires.0;
      read = c.requires.1;
      next = c.part-2.ensures;
      unlinked = c.first_unlinked-unlinked.ensures ∙ ap (λ (t : Bool). first_unlinked c.args.s.unlinked c.args.s.read.line (cond t 0 23)) linked;
      memory = c.keep.ensures;
    }
