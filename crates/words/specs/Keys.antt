-- The node that a key names. Assumes nothing.
use Rattle.meaning.specs.Graph.{Node, node}
use Rattle.words.specs.declared.key.Key.{Key}

abbrev pub node_of : Key → Node
node_of k = node k.op k.kids.now
