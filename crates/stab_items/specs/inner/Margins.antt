-- Margins: in how many blocks a line is.
-- Source: this project's own.
use Rattle.std.specs.Prelude.{ℕ, suc, zero}
use Rattle.stab_items.specs.declared.print.Margin.{Margin, None, Inside'}

-- how many blocks there are around a line
abbrev pub margin_depth : Margin → ℕ
margin_depth None = zero
margin_depth (Inside' position outer) = suc (margin_depth outer)
