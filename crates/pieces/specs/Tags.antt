-- How a tag is spelt.
use Rattle.std.specs.Prelude.{ℕ, List, ◌++◌, codes}
use Rattle.pieces.specs.Cuts.{Shape, opening, closing, empty}
use Rattle.pieces.specs.Names.{element_name}
use Rattle.pieces.specs.declared.names.Element.{Element}
use Rattle.pieces.specs.declared.token.Tag.{Tag}
use Rattle.pieces.specs.declared.token.Tag.TheVariants.{Open, Close, Empty}

abbrev pub open_text : Element → List ℕ
open_text e = codes "<" ++ (element_name e ++ codes ">")

abbrev pub close_text : Element → List ℕ
close_text e = codes "</" ++ (element_name e ++ codes ">")

abbrev pub empty_text : Element → List ℕ
empty_text e = codes "<" ++ (element_name e ++ codes "/>")

unfoldable pub tag_text : Tag → List ℕ
tag_text (Open e) = open_text e
tag_text (Close e) = close_text e
tag_text (Empty e) = empty_text e

abbrev pub tag_shape : Tag → Shape
tag_shape (Open e) = opening
tag_shape (Close e) = closing
tag_shape (Empty e) = empty
