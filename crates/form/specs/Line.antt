-- The line that is printed for a graph.
--
--   spaced xs         the numbers xs in decimal, with one blank between each two
--   line_with v xs    the line for the verdict v: the numbers xs if it is accepted, else which refusal it is, and its place
--   line_of xs        the line for the graph that xs encodes: its form, or the first refusal that applies
--   lines_of graphs   the lines for all of these graphs, in order, each with its end
--   text l            the text of the line l, as it is printed
use Rattle.std.specs.Prelude.{ℕ, List, [], ◌∷◌, ◌++◌, codes, decimal}
use Rattle.std.specs.List.{flat_map}
use Rattle.theory.specs.Row.{Row}
use Rattle.theory.specs.Refusal.{Verdict, accepted, refused}
use Rattle.theory.specs.CanonicalForm.{form}
use Rattle.theory.specs.Encoding.{graph_in, form_verdict, largest_form}
use Rattle.graph.specs.Verdicts.{told, line}
use Rattle.form.specs.declared.line.Line.{Line}
use Rattle.form.specs.declared.line.Line.TheVariants.{Form, Refused}

abbrev pub spaced : Row → List ℕ
spaced [] = []
spaced (x ∷ xs) = decimal x ++ flat_map (λ y. codes " " ++ decimal y) xs

abbrev pub line_with : Verdict → Row → List ℕ
line_with accepted xs = spaced xs
line_with (refused number place) xs = line (refused number place)

abbrev pub line_of : Row → List ℕ
line_of xs = line_with (form_verdict xs largest_form) (form (graph_in xs))

abbrev pub lines_of : List Row → List ℕ
lines_of graphs = flat_map (λ xs. line_of xs ++ 10 ∷ []) graphs

abbrev pub text : Line → List ℕ
text (Form numbers) = spaced numbers.now
text (Refused refusal) = line (told refusal)
