-- Four numbers, one behind the other (`first-put`).
use native.Mathlib.Omega.{arith}
use Rattle.printing.specs.LookingLaws.{first-put}
use Rattle.printing.proofs.looking.put_first.Goals as goal

pub returns : goal.returns
returns c =
    let one = c.put_number-one.ensures in
    let two = c.put_number-two.ensures in
    let three = c.put_number-three.ensures in
    let four = c.put_number.ensures in
    record {
      puts = first-put c.args.room.now c.args.bytes c.args.term c.args.vote c.args.last c.requires one.puts two.puts three.puts four.puts;
      upper_bound = omega (arith, one.upper_bound, two.upper_bound, three.upper_bound, four.upper_bound);
    }
