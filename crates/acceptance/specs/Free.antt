-- Operations of delay 1 and one type: the tables of n independent ones at bound 2, and of two in a row at bound 3.
use Rattle.std.specs.Prelude.{◌≡◌, refl, List, [], ◌∷◌, ℕ, ◌+◌, ◌-◌, ◌≤◌, ◌<◌, length, replicate}
use Rattle.std.proofs.Common.{sym, ◌∙◌, arith, below_none, below_more}
use Rattle.std.proofs.lemmas.List.{length-replicate, get_or-replicate}
use Rattle.maths.specs.Rows.{at}
use Rattle.model.specs.Graph.{Graph, lent, order, many}
use Rattle.model.specs.Tables.{Keeps, Asap, Alap, Mobility}

-- n operations of delay 1 and type 0, with their edges
abbrev pub plain_graph : ℕ → List ℕ → List ℕ → Graph
plain_graph n from to = lent (replicate n 1) (replicate n 0) 1 from to

-- a row of two
abbrev pub two_starts : ℕ → ℕ → List ℕ
two_starts a b = a ∷ (b ∷ [])

-- what holds of 0 holds below 1; of 0 and 1, below 2
pub below_one : (P : ℕ → Type 0) → P 0 → (i : ℕ) → i < 1 → P i
below_one P a = below_more P 0 (below_none P) a

pub below_two : (P : ℕ → Type 0) → P 0 → P 1 → (i : ℕ) → i < 2 → P i
below_two P a b = below_more P 1 (below_one P a) b

-- ---- independent
module _ (n : ℕ) where
  -- how many they are
  pub free_many : many (plain_graph n [] []) ≡ n
  free_many = length-replicate {A = ℕ} n 1

  full : (v i : ℕ) → i < length {A = ℕ} (replicate n 1) → at (replicate n v) i ≡ v
  full v i l = get_or-replicate n i v 0 (omega (arith, length-replicate {A = ℕ} n 1))

  -- each can start at 1
  pub free_asap : Asap (plain_graph n [] []) (replicate n 1)
  free_asap = record {
    long = refl;
    earliest = record {
      keeps = record { from_one = λ i l. omega (arith, full 1 i l); edges = λ e l. absurd (omega arith) };
      least = λ u k i l. omega (arith, full 1 i l, k.from_one i l);
    };
  }

  -- and as late as 2
  pub free_alap : Alap (plain_graph n [] []) 2 (replicate n 2)
  free_alap = record {
    long = length-replicate n 2 ∙ sym (length-replicate n 1);
    latest = record {
      keeps = record { from_one = λ i l. omega (arith, full 2 i l); edges = λ e l. absurd (omega arith) };
      within = record { ends = λ i l. omega (arith, full 2 i l, full 1 i l) };
      greatest = λ u k w i l. omega (arith, full 2 i l, full 1 i l, w.ends i l);
    };
  }

  -- so each has a mobility of 1
  pub free_mobility : Mobility (plain_graph n [] []) 2 (replicate n 1)
  free_mobility = record {
    long = refl;
    asap = replicate n 1;
    alap = replicate n 2;
    is_asap = free_asap;
    is_alap = free_alap;
    less = λ i l. omega (arith, full 2 i l, full 1 i l);
  }

-- ---- no operation at all, whatever the bound
pub empty_mobility : (bound : ℕ) → Mobility (plain_graph 0 [] []) bound []
empty_mobility bound = record {
  long = refl;
  asap = [];
  alap = [];
  is_asap = record {
    long = refl;
    earliest = record {
      keeps = record { from_one = λ i l. absurd (omega arith); edges = λ e l. absurd (omega arith) };
      least = λ u k i l. absurd (omega arith);
    };
  };
  is_alap = record {
    long = refl;
    latest = record {
      keeps = record { from_one = λ i l. absurd (omega arith); edges = λ e l. absurd (omega arith) };
      within = record { ends = λ i l. absurd (omega arith) };
      greatest = λ u k w i l. absurd (omega arith);
    };
  };
  less = λ i l. absurd (omega arith);
}

-- ---- one after the other
-- operation 1 waits for operation 0
abbrev pub row_of_two : Graph
row_of_two = plain_graph 2 (0 ∷ []) (1 ∷ [])

-- its one edge is kept where 1 starts after 0
row_keeps : (a b : ℕ) → 1 ≤ a → a < b → Keeps (order row_of_two) (two_starts a b)
row_keeps a b p q = record {
  from_one = below_two (λ (i : ℕ). 1 ≤ at (two_starts a b) i) p (omega arith);
  edges = below_one (λ (e : ℕ). at (two_starts a b) (at (0 ∷ []) e) + at (replicate 2 1) (at (0 ∷ []) e) ≤ at (two_starts a b) (at (1 ∷ []) e)) (omega arith);
}

pub row_asap : Asap row_of_two (two_starts 1 2)
row_asap = record {
  long = refl;
  earliest = record {
    keeps = row_keeps 1 2 (omega arith) (omega arith);
    least = λ u k.
        below_two (λ (i : ℕ). at (two_starts 1 2) i ≤ at u i) (k.from_one 0 (omega arith))
        (omega (arith, k.from_one 0 (omega arith), k.edges 0 (omega arith)));
  };
}

pub row_alap : Alap row_of_two 3 (two_starts 2 3)
row_alap = record {
  long = refl;
  latest = record {
    keeps = row_keeps 2 3 (omega arith) (omega arith);
    within = record {
      ends = below_two (λ (i : ℕ). at (two_starts 2 3) i + at (replicate 2 1) i ≤ 4) (omega arith) (omega arith);
    };
    greatest = λ u k w.
        below_two (λ (i : ℕ). at u i ≤ at (two_starts 2 3) i)
        (omega (arith, w.ends 1 (omega arith), k.edges 0 (omega arith)))
        (omega (arith, w.ends 1 (omega arith)));
  };
}

pub row_mobility : Mobility row_of_two 3 (two_starts 1 1)
row_mobility = record {
  long = refl;
  asap = two_starts 1 2;
  alap = two_starts 2 3;
  is_asap = row_asap;
  is_alap = row_alap;
  less = below_two (λ (i : ℕ). at (two_starts 1 1) i ≡ at (two_starts 2 3) i - at (two_starts 1 2) i) refl refl;
}
