-- Each name, and the value behind it.
use Rattle.history_text.proofs.Added.{passes_client, passes_node, passes_time}
use Rattle.history_text.proofs.flat_members.passed.Goals as goal

pub returns-in-Some : goal.returns-in-Some
returns-in-Some c =
    passes_client c.args.operations c.args.text.now c.in-Some.behind.now c.in_ok-_client.rest.now
    c.in_ok-_client._client
    c.in-Some.ensures c.in_ok-_client.ensures

pub returns-in-Some-named : goal.returns-in-Some-named
returns-in-Some-named c =
    passes_node c.args.operations c.args.text.now c.in-Some-named.behind.now c.in_ok-_node.rest.now
    c.in_ok-_node._node
    c.in-Some-named.ensures c.in_ok-_node.ensures

pub returns : goal.returns
returns c =
    passes_time c.args.operations c.args.text.now c.in_ok-behind.behind.now c.in_ok-_time.rest.now
    c.in_ok-_time._time
    c.in_ok-behind.ensures c.in_ok-_time.ensures
