-- What the function for latest starts asks for, and what it gives.
use Rattle.std.specs.Prelude.{◌≡◌, List, ℕ, ◌≤◌, length}
use Rattle.maths.specs.Rows.{at}
use Rattle.model.specs.Limits as limit
use Rattle.model.specs.Order.{Order, size}
use Rattle.model.specs.Tables.{Keeps, Within, Latest}

-- some starts keep the order within the bound
pub record RoomWithin (o : Order) (bound : ℕ) : Type 0 where
  pub row : List ℕ
  pub keeps : Keeps o row
  pub within : Within o bound row

-- the latest starts, and zeros after them
pub record LatestRow (o : Order) (bound : ℕ) (r : List ℕ) : Type 0 where
  pub long : length r ≡ limit.operations
  pub is : Latest o bound r
  pub rest : (i : ℕ) → size o ≤ i → at r i ≡ 0
