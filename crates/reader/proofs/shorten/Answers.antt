-- By the two tests.
use native.Mathlib.Omega.{arith}
use borrow.Author.Tests.{lt-ltb, le-ltb}
use Rattle.reader.proofs.shorten.Goals as goal

pub returns-then-held-block : goal.returns-then-held-block
returns-then-held-block c =
    record { upper_bound = omega arith; value = rw (lt-ltb c.args.held _ c.if-held-block.true) }

pub returns-then-held-lt1024 : goal.returns-then-held-lt1024
returns-then-held-lt1024 c =
    record {
      upper_bound = omega arith;
      value = rw (le-ltb c.args.held _ c.if-held-block.false, lt-ltb c.args.held 1024 c.if-held-lt1024.true);
    }

pub returns : goal.returns
returns c =
    record {
      upper_bound = omega (arith, c.if-held-lt1024.false);
      value = rw (le-ltb c.args.held _ c.if-held-block.false, le-ltb c.args.held 1024 c.if-held-lt1024.false);
    }
