-- What a walk over a register's events knows of the events ahead of it.
use Rattle.std.specs.Prelude.{◌≡◌, ℕ, Some}
use Rattle.history_model.specs.History.{History}
use Rattle.history_model.specs.Naming.{IsOperOf}
use Rattle.history_model.specs.Walking.{IsNextOf, IsOnWalk, by_register}
use Rattle.history_model.specs.declared.ids.EvId.{EvId}
use Rattle.reg_zones.specs.declared.ahead.Ahead.{Ahead}

-- the second event follows the next one, and the third the second; each operation is that of its event; the
-- second and the third, if they are there, are events of register r
pub record IsAhead (h : History) (r : ℕ) (ahead : Ahead) : Type 0 where
  pub oper : (id : EvId) → ahead.next ≡ Some id → IsOperOf h id.0 ahead.oper
  pub second : (id : EvId) → ahead.next ≡ Some id → IsNextOf by_register h.events id.0 ahead.second
  pub second_on : IsOnWalk h.events r ahead.second
  pub second_oper : (id : EvId) → ahead.second ≡ Some id → IsOperOf h id.0 ahead.second_oper
  pub third : (id : EvId) → ahead.second ≡ Some id → IsNextOf by_register h.events id.0 ahead.third
  pub third_on : IsOnWalk h.events r ahead.third
