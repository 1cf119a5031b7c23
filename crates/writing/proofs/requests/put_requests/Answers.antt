-- What the closure writes is the request, which is 29 bytes long.
use Rattle.std.proofs.Common.{rules}
use Rattle.record.specs.SizeLaws.{asks, request-long}
use Rattle.writing.proofs.requests.put_requests.Goals as goal

pub returns : goal.returns
returns c =
    c.put_to_others.ensures (asks c.args.n c.args.last_term)
    (λ p i bytes q o e. let long = request-long c.args.n.me i c.args.n.term c.args.n.last c.args.last_term in (search (rules, long), search rules))
