use Rattle.std.proofs.Common.{List, ap, length, map, subst, ◌∙◌}
use Rattle.ruby_topology.specs.declared.forms.Member.{Member}
use Rattle.ruby_topology.specs.Prelude.{AreRows, HasRoutes, links_of, name_of, network_of}
use Rattle.ruby_topology.proofs.topology.with_parts.Goals as goal

pub returns-clause-parts : goal.returns-clause-parts
returns-clause-parts c =
    let symbols = c.args.symbols.now in
    let said = c.args.said.now in
    let routes = c.args.routes in
    let same = c.requires.members in
    record {
      counts_are = c.in_ok-counts.ensures;
      names = c.in_ok-names.ensures ∙ ap (map (name_of symbols)) same;
      paths = subst (λ (ms : List Member). AreRows (network_of said) (links_of ms said) (length ms) routes.paths) same c.requires.paths;
      routes = subst (λ (ms : List Member). HasRoutes symbols said ms routes.paths routes) same c.requires.routes;
      sizes = c.in_ok-sizes.ensures;
    }
