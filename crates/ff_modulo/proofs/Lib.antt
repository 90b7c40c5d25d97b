mod ModuloLemmas
