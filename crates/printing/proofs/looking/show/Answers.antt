-- The first line, and the log behind it (`shown-put`).
use native.Mathlib.Omega.{arith}
use Rattle.printing.specs.LookingLaws.{shown-put}
use Rattle.printing.proofs.looking.show.Goals as goal

pub returns : goal.returns
returns c =
    let first = c.put_first-first.ensures in
    record {
      puts =
          shown-put c.args.room.now c.args.bytes c.args.n c.args.terms.now c.args.orders.now c.requires.wide c.requires.fits first.puts first.upper_bound
          c.put_log.ensures;
      upper_bound = omega (arith, first.upper_bound, c.requires.fits);
    }
