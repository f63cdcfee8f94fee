-- Cases with known answers, 6 to 14, as one table, and one fact over the whole table: by computing where they compute.
use Rattle.std.specs.Prelude.{◌≡◌, List, [], ◌∷◌, ◌++◌, ℕ, ◌≤◌, length, replicate, Ok, Err}
use Rattle.std.proofs.Math.Option.{Option, none, some}
use Rattle.maths.specs.Rows.{over}
use Rattle.maths.specs.Words.{keep}
use Rattle.maths.specs.WordLaws.{is_before}
use Rattle.model.specs.Graph.{Graph, lent, many}
use Rattle.model.specs.Refusals.{First}
use Rattle.model.specs.Answers.{AsapAnswer}
use Rattle.model.specs.Verdicts.{Checked}
use Rattle.model.specs.Listing.{all_lawful}
use Rattle.model.specs.Checks.{lister_checks}
use Rattle.model.specs.declared.Refusal.TheVariants as refusals
use Rattle.model.specs.declared.Finding.{Finding}
use Rattle.model.specs.declared.Finding.TheVariants as found
use Rattle.acceptance.specs.Free.{plain_graph, two_starts}
use Rattle.acceptance.specs.Circles.{three}

-- what a case says of a graph
pub data Case : Type 0 where
  -- it is refused as cyclic, and this cycle is written
  cycle : Graph → List ℕ → Case
  -- with these units and this bound, the lawful schedules from the row asked after on are these rows; from the first, where none is asked after
  listing : Graph → List ℕ → ℕ → Option (List ℕ) → List (List ℕ) → Case
  -- with these units and this bound, the checker finds this in these starts
  verdict : Graph → List ℕ → ℕ → List ℕ → Finding → Case
  -- with these units and this bound, the lister is refused so, or not at all
  refusal : Graph → List ℕ → ℕ → Option (ℕ × ℕ) → Case

-- n operations of delay 2 and type 0, without edges
abbrev pub slow : ℕ → Graph
slow n = lent (replicate n 2) (replicate n 0) 1 [] []

-- one unit of one type, and two
abbrev pub single : List ℕ
single = 1 ∷ []

abbrev pub double : List ℕ
double = 2 ∷ []

abbrev pub sixth : List Case
sixth = cycle (plain_graph 3 (three 0 1 2) (three 1 2 0)) (three 0 1 2) ∷ []

abbrev pub seventh : List Case
seventh = cycle (plain_graph 3 (three 1 2 1) (three 2 1 0)) (two_starts 1 2) ∷ []

abbrev pub eighth : List Case
eighth =
    listing (plain_graph 0 [] []) single 0 none ([] ∷ [])
    ∷ (listing (plain_graph 0 [] []) single 0 (some []) [] ∷ [])

abbrev pub ninth : List Case
ninth =
    listing (plain_graph 2 [] []) single 2 none (two_starts 1 2 ∷ (two_starts 2 1 ∷ []))
    ∷ (listing (plain_graph 2 [] []) double 2 none (two_starts 1 1 ∷ (two_starts 1 2 ∷ (two_starts 2 1 ∷ (two_starts 2 2 ∷ [])))) ∷ [])

abbrev pub tenth : List Case
tenth =
    listing (plain_graph 2 (0 ∷ []) (1 ∷ [])) double 3 none (two_starts 1 2 ∷ (two_starts 1 3 ∷ (two_starts 2 3 ∷ [])))
    ∷ (listing (plain_graph 2 (0 ∷ []) (1 ∷ [])) double 3 (some (two_starts 1 3)) (two_starts 2 3 ∷ [])
    ∷ (listing (plain_graph 2 (0 ∷ []) (1 ∷ [])) double 3 (some (two_starts 0 9)) (two_starts 1 2 ∷ (two_starts 1 3 ∷ (two_starts 2 3 ∷ [])))
    ∷ (listing (plain_graph 2 (0 ∷ []) (1 ∷ [])) double 3 (some (two_starts 65535 65535)) [] ∷ [])))

abbrev pub eleventh : List Case
eleventh = listing (plain_graph 3 [] []) single 2 none [] ∷ []

abbrev pub twelfth : List Case
twelfth =
    verdict (slow 1) single 2 (1 ∷ []) found.Lawful
    ∷ (verdict (slow 1) single 1 (1 ∷ []) (found.Untimely 0) ∷ [])

abbrev pub thirteenth : List Case
thirteenth =
    verdict (slow 2) single 4 (two_starts 1 2) (found.OverUse 2 0)
    ∷ (verdict (slow 2) single 4 (two_starts 1 3) found.Lawful ∷ [])

abbrev pub fourteenth : List Case
fourteenth =
    refusal (plain_graph 19 [] []) single 2 none
    ∷ (refusal (plain_graph 20 [] []) single 2 (some (10, 0)) ∷ [])

-- the table
abbrev pub starred : List Case
starred =
    sixth ++ (seventh ++ (eighth ++ (ninth ++ (tenth ++ (eleventh ++ (twelfth ++ (thirteenth ++ fourteenth)))))))

-- what the definition's list has from the row asked after on
unfoldable pub list_from : Graph → List ℕ → ℕ → Option (List ℕ) → List (List ℕ)
list_from g units bound none = all_lawful g units bound
list_from g units bound (some row) = keep (is_before row) (all_lawful g units bound)

-- the case comes out as the definitions say
unfoldable pub Holds : Case → Type 0
Holds (cycle g c) =
    (out : List ℕ) → many g ≤ length out → AsapAnswer g out (Err (refusals.Cycle (length c))) (over c out)
Holds (listing g units bound asked rows) =
    First (lister_checks g units bound asked (many g)) none × (list_from g units bound asked ≡ rows)
Holds (verdict g units bound t f) = Checked g units bound t (Ok f)
Holds (refusal g units bound x) = First (lister_checks g units bound none (many g)) x

-- each of them does
unfoldable pub All : List Case → Type 0
All [] = Unit {0}
All (c ∷ rest) = Holds c × All rest
