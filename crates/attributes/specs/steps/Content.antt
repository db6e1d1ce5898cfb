-- What a content holds, before it is known to be that of an event.
use Rattle.std.specs.Prelude.{⊤}
use Rattle.base64.specs.GeneralPurpose.{IsBytes}
use Rattle.attributes.specs.Exact.{IsExact}
use Rattle.attributes.specs.declared.content.Content.{Content}
use Rattle.attributes.specs.declared.content.Content.TheVariants as content

-- the bytes of an event's data are numbers below 256
abbrev pub HoldsBytes : Content → Type 0
HoldsBytes (content.Bytes b) = IsBytes b
HoldsBytes _ = ⊤

-- an event's data is a tree that some JSON text has, or bytes
abbrev pub HoldsExact : Content → Type 0
HoldsExact content.Nothing = ⊤
HoldsExact (content.Tree d) = IsExact d
HoldsExact (content.Bytes b) = IsBytes b
