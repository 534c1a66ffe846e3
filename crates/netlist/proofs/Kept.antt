-- What a netlist that is read keeps.
use Rattle.std.proofs.Common.{ℕ, ◌≤◌, List, length}
use Rattle.std.proofs.ByRecursion.{All-get_or}
use Rattle.std.specs.Int.{IsInRange}
use Rattle.netlist.specs.declared.channel.Channel.{Channel}
use Rattle.netlist.specs.Layout.{Contents, Valid}
use Rattle.netlist.specs.Limits.{Sinks, Sources}

pub record Kept (n : ℕ) (channels : List Channel) : Type 0 where
  pub some : IsInRange 1 64 n
  pub few : length channels ≤ 192
  pub sources : Sources n channels
  pub sinks : Sinks n channels

pub valid_kept : (c : Contents) → Valid c → Kept (length c.modules) c.channels
valid_kept c v =
    let n = length c.modules in
    record {
      some = v.some;
      few = v.few;
      sources = λ k d l. (All-get_or (λ (e : Channel). IsInRange 1 n e.source × IsInRange 1 n e.sink) c.channels k d l v.ends).0;
      sinks = λ k d l. (All-get_or (λ (e : Channel). IsInRange 1 n e.source × IsInRange 1 n e.sink) c.channels k d l v.ends).1;
    }
